-- Transposition in place. Only contracts of `Flat` cite this module.
use Rattle.std.specs.Prelude.{◌≡◌, ℕ, ◌+◌, ◌*◌, ◌<◌, ◌≤◌, List, length, slice_get}

module _ {T : Type 0} (p q : ℕ) (old new : List T) where
  -- p lines of q cells are q lines of p cells: place j of line l is place l of line j
  pub record TransposedInPlace : Type 0 where
    pub lengths : length new ≡ length old
    pub at : (l j : ℕ) → l < p → j < q → slice_get new (j * p + l) ≡ slice_get old (l * q + j)

-- In a square of n lines of n cells, the cells of rows t to b and columns l to r, which are above
-- the diagonal, have changed places with those across it.
module _ {T : Type 0} (n t b l r : ℕ) (old new : List T) where
  pub record Mirrored : Type 0 where
    pub lengths : length new ≡ length old
    pub above : (i j : ℕ) → t ≤ i → i < b → l ≤ j → j < r
        → slice_get new (i * n + j) ≡ slice_get old (j * n + i)
    pub below : (i j : ℕ) → t ≤ i → i < b → l ≤ j → j < r
        → slice_get new (j * n + i) ≡ slice_get old (i * n + j)
    pub others : (i j : ℕ) → i < n → j < n → (t ≤ i → i < b → l ≤ j → j < r → ⊥)
        → (t ≤ j → j < b → l ≤ i → i < r → ⊥)
        → slice_get new (i * n + j) ≡ slice_get old (i * n + j)

-- In a square of n lines of n cells, that of the rows and columns f to t is transposed.
module _ {T : Type 0} (n f t : ℕ) (old new : List T) where
  pub record Transposed : Type 0 where
    pub lengths : length new ≡ length old
    pub inside : (i j : ℕ) → f ≤ i → i < t → f ≤ j → j < t
        → slice_get new (i * n + j) ≡ slice_get old (j * n + i)
    pub others : (i j : ℕ) → i < n → j < n → (f ≤ i → i < t → f ≤ j → j < t → ⊥)
        → slice_get new (i * n + j) ≡ slice_get old (i * n + j)
