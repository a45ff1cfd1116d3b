-- Groups of cells that are put into lines, or taken out of them. A vector is seen as p lines of q
-- cells, and each line has room for a group of k cells before its place i. Only contracts of `Flat`
-- cite this module.
use Rattle.std.specs.Prelude.{◌≡◌, ℕ, ◌+◌, ◌*◌, ◌<◌, ◌≤◌, List, ◌++◌, length, slice_get}

module _ {T : Type 0} (p q i k : ℕ) (short long : List T) where
  -- p lines of q cells in the one vector are, with a group in each, p lines of q + k cells in the
  -- other
  pub record Widened : Type 0 where
    pub before : (l j : ℕ) → l < p → j < q → j < i
        → slice_get long (l * (q + k) + j) ≡ slice_get short (l * q + j)
    pub after : (l j : ℕ) → l < p → j < q → i ≤ j
        → slice_get long (l * (q + k) + (k + j)) ≡ slice_get short (l * q + j)

  -- the groups are after the lines in the one vector, and each in its line in the other
  pub record Woven : Type 0 where
    pub lengths : length long ≡ length short
    pub lines : Widened
    pub groups : (l j : ℕ) → l < p → j < k
        → slice_get long (l * (q + k) + (i + j)) ≡ slice_get short (p * q + (l * k + j))

  -- each place of a group has one of the cells that were after the lines
  pub record Opened : Type 0 where
    pub lengths : length long ≡ length short
    pub lines : Widened
    pub groups : (l j : ℕ) → l < p → j < k
        → (x : ℕ) × (p * q ≤ x) × (x < length short)
        × (slice_get long (l * (q + k) + (i + j)) ≡ slice_get short x)

  -- the groups are gone
  pub record Closed : Type 0 where
    pub lengths : length short ≡ p * q
    pub lines : Widened

module _ {T : Type 0} (p q i k : ℕ) (short taken long : List T) where
  -- the groups are taken out, joined, and the lines are left
  pub record TakenOut : Type 0 where
    pub lengths : length short ≡ p * q
    pub woven : Woven p q i k (short ++ taken) long
