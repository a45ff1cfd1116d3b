-- Two blocks of cells that change places, swaps at one distance one after another, and a part of
-- the cells that is reversed.
use Rattle.std.specs.Prelude.{◌≡◌, ℕ, zero, suc, ◌+◌, ◌-◌, ◌<◌, ◌≤◌, List, length, slice_get, swap}

-- the m cells from place a on, and the n cells after them
pub record BlocksExchanged {T : Type 0} (a m n : ℕ) (old new : List T) : Type 0 where
  pub length_stays : length new ≡ length old
  pub before : (x : ℕ) → x < a → slice_get new x ≡ slice_get old x
  pub second : (x : ℕ) → x < n → slice_get new (a + x) ≡ slice_get old (a + (m + x))
  pub first : (x : ℕ) → x < m → slice_get new (a + (n + x)) ≡ slice_get old (a + x)
  pub behind : (x : ℕ) → a + (m + n) ≤ x → slice_get new x ≡ slice_get old x

-- the n cells from place i on, and the n cells from place j on, each of the first with its like of
-- the second
pub record BlocksSwapped {T : Type 0} (i j n : ℕ) (old new : List T) : Type 0 where
  pub length_stays : length new ≡ length old
  pub first : (x : ℕ) → x < n → slice_get new (i + x) ≡ slice_get old (j + x)
  pub second : (x : ℕ) → x < n → slice_get new (j + x) ≡ slice_get old (i + x)
  pub others : (k : ℕ) → (i ≤ k → i + n ≤ k) → (j ≤ k → j + n ≤ k)
      → slice_get new k ≡ slice_get old k

-- the n cells from place i on are those of another list from place j on
pub record BlockTaken {T : Type 0} (i j n : ℕ) (old from new : List T) : Type 0 where
  pub length_stays : length new ≡ length old
  pub taken : (x : ℕ) → x < n → slice_get new (i + x) ≡ slice_get from (j + x)
  pub others : (k : ℕ) → (i ≤ k → i + n ≤ k) → slice_get new k ≡ slice_get old k

-- the list after n swaps one after another, of the cells at start + k and start + k + shift, from k
-- = 0 up
unfoldable pub swapped_forward : {T : Type 0} → ℕ → ℕ → ℕ → List T → List T
swapped_forward start shift zero cells = cells
swapped_forward start shift (suc n) cells = swap (swapped_forward start shift n cells) (start + n)
    (start + n + shift)

-- the list after the same swaps, from k = n - 1 down
unfoldable pub swapped_back : {T : Type 0} → ℕ → ℕ → ℕ → List T → List T
swapped_back start shift zero cells = cells
swapped_back start shift (suc n) cells = swapped_back start shift n
    (swap cells (start + n) (start + n + shift))

-- n cells from a on are reversed
pub record PartReversed {T : Type 0} (a n : ℕ) (old new : List T) : Type 0 where
  pub length_stays : length new ≡ length old
  pub moved : (j : ℕ) → j < n → slice_get new (a + j) ≡ slice_get old (a + (n - 1 - j))
  pub others : (k : ℕ) → (a ≤ k → a + n ≤ k) → slice_get new k ≡ slice_get old k
