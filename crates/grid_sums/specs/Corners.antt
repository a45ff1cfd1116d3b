-- The sums that are stored, and the numbers whose sums they are. No public clause cites this module.
use Rattle.std.specs.Prelude.{◌≡◌, ℕ, ◌+◌, ◌*◌, ◌^◌, ◌<◌, ◌≤◌, ℤ, pos, neg_ℤ, ◌+ℤ◌, ◌-ℤ◌, ◌≤ℤ◌, Option, Some, List, length, slice_index_or}
use Rattle.grid_base.specs.Table.{cell, col_count, IsSize, tabulate}
use denote.Ref.{Bor}

-- the sum at a place, where each row of sums has w
abbrev pub at : ℕ → List ℤ → ℕ → ℕ → ℤ
at w sums r c = slice_index_or sums (r * w + c) (pos 0)

-- what the sums grow by at a corner
abbrev pub growth : ℕ → List ℤ → ℕ → ℕ → ℤ
growth w sums r c =
    (at w sums (r + 1) (c + 1) -ℤ at w sums r (c + 1)) -ℤ (at w sums (r + 1) c -ℤ at w sums r c)

-- the table of m rows and n columns whose sums these are
abbrev pub numbers_of : ℕ → ℕ → List ℤ → List (List ℤ)
numbers_of m n sums = tabulate m n (λ r c. Some (growth (n + 1) sums r c))

-- z is the sum of at most k numbers of 64 bits
pub record IsWithin (z : ℤ) (k : ℕ) : Type 0 where
  pub low : neg_ℤ (pos (2 ^ 63 * k)) ≤ℤ z
  pub high : (z +ℤ pos k) ≤ℤ pos (2 ^ 63 * k)

-- each sum is of fewer numbers of 64 bits than its place
pub record AreSmall (sums : List ℤ) : Type 0 where
  pub small : (k : ℕ) → k < length sums → IsWithin (slice_index_or sums k (pos 0)) k

-- a vector of sums has one for each corner of m rows and n columns
pub record HoldsSums (m n : ℕ) (sums : List ℤ) : Type 0 where
  pub size : IsSize m n
  pub count : length sums ≡ (m + 1) * (n + 1)
  pub below : length sums < 2 ^ 60
  pub small : AreSmall sums
  pub numbers : (r c : ℕ) → r < m → c < n → IsWithin (growth (n + 1) sums r c) 1

module _ {F A : Type 0} (returns : F → Bor A → ℤ → Type 0) (f : F) where
  -- z is a number of 64 bits that the closure f may return for this cell, which is there
  pub record Returns (x : Option A) (z : ℤ) : Type 0 where
    pub shown : Bor A
    pub shows : x ≡ Some shown.now
    pub says : returns f shown z
    pub within : IsWithin z 1

  -- the sums of the first m rows of t
  pub record RowsSummed (m : ℕ) (t : List (List A)) (sums : List ℤ) : Type 0 where
    pub count : length sums ≡ (m + 1) * (col_count t + 1)
    pub first : (r : ℕ) → r ≤ m → at (col_count t + 1) sums r 0 ≡ pos 0
    pub small : AreSmall sums
    pub grown : (r c : ℕ) → r < m → c < col_count t
        → Returns (cell t r c) (growth (col_count t + 1) sums r c)

  -- after the old sums come 0, and those of the first n numbers of row r, whose own sum is z
  pub record RowSummed (r : ℕ) (t : List (List A)) (old : List ℤ) (n : ℕ) (z : ℤ) (sums : List ℤ) : Type 0
    where
      pub count : length sums ≡ length old + 1 + n
      pub kept : (k : ℕ) → k < length old → slice_index_or sums k (pos 0) ≡ slice_index_or old k (pos 0)
      pub first : at (col_count t + 1) sums (r + 1) 0 ≡ pos 0
      pub small : AreSmall sums
      pub within : IsWithin z n
      pub last : at (col_count t + 1) sums (r + 1) n ≡ at (col_count t + 1) sums r n +ℤ z
      pub grown : (c : ℕ) → c < n → Returns (cell t r c) (growth (col_count t + 1) sums r c)
