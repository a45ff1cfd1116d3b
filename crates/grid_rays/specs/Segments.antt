-- The positions of a straight line between two.
use Rattle.std.specs.Prelude.{◌≡◌, ℕ, zero, suc, ◌+◌, ◌-◌, ◌*◌, ◌/◌, ◌<◌, ◌≤◌, max, Some, List, length, map, reverse, slice_get}
use Rattle.std.specs.Int.{abs_diff}
use Rattle.std.specs.List.{range_with_len}

-- of i + j equal steps from a to b, the number nearest to where i of them lead; of two that are as
-- near, the greater
abbrev pub nearest : ℕ → ℕ → ℕ → ℕ → ℕ
nearest a b zero j = a
nearest a b (suc i) j = (j * a + suc i * b + (suc i + j) / 2) / (suc i + j)

-- how many steps lead from one position to another, where a step goes to any cell that touches
abbrev pub steps_between : ℕ × ℕ → ℕ × ℕ → ℕ
steps_between a b = max (abs_diff a.0 b.0) (abs_diff a.1 b.1)

-- the position of a line that is i steps from a, and j from b
abbrev pub point : ℕ × ℕ → ℕ × ℕ → ℕ → ℕ → ℕ × ℕ
point a b i j = (nearest a.0 b.0 i j, nearest a.1 b.1 i j)

-- the positions of the line from a to b
abbrev pub segment : ℕ × ℕ → ℕ × ℕ → List (ℕ × ℕ)
segment a b =
    let n = steps_between a b in map (λ i. point a b i (n - i)) (range_with_len 0 (n + 1))

-- x is within half of one from where i of i + j equal steps from a to b lead
pub record IsNear (a b i j x : ℕ) : Type 0 where
  pub not_above : 2 * ((i + j) * x) ≤ 2 * (j * a + i * b) + (i + j)
  pub not_below : 2 * (j * a + i * b) ≤ 2 * ((i + j) * x) + (i + j)

-- the positions lead from a to b, each one step from the one before, as many as the steps between
-- the two and one, and each within half a row and half a column of the straight line; a board that
-- has a and b has them all; and those from b to a are the same in reverse
pub record IsStraight (a b : ℕ × ℕ) (positions : List (ℕ × ℕ)) : Type 0 where
  pub count : length positions ≡ steps_between a b + 1
  pub first : slice_get positions 0 ≡ Some a
  pub last : slice_get positions (steps_between a b) ≡ Some b
  pub each_step : (k : ℕ) (p q : ℕ × ℕ) → slice_get positions k ≡ Some p
      → slice_get positions (k + 1) ≡ Some q → steps_between p q ≡ 1
  pub near_row : (k : ℕ) (p : ℕ × ℕ) → slice_get positions k ≡ Some p
      → IsNear a.0 b.0 k (steps_between a b - k) p.0
  pub near_col : (k : ℕ) (p : ℕ × ℕ) → slice_get positions k ≡ Some p
      → IsNear a.1 b.1 k (steps_between a b - k) p.1
  pub row_in : (k m : ℕ) (p : ℕ × ℕ) → slice_get positions k ≡ Some p → a.0 < m → b.0 < m → p.0 < m
  pub col_in : (k n : ℕ) (p : ℕ × ℕ) → slice_get positions k ≡ Some p → a.1 < n → b.1 < n → p.1 < n
  pub back : segment b a ≡ reverse positions
