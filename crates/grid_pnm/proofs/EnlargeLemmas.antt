-- The size of a board that is made larger.
use Rattle.std.proofs.Common.{◌≡◌, ℕ, zero, suc, ◌*◌, ◌<◌, ◌≤◌, ◌^◌, Option, Some, Result, Ok, Err, IfOk, refl, ap, ◌∙◌, arith, le-mul_of_pos_right, mul_comm}
use Rattle.grid_base.proofs.Common.{mul-lt, IsSize, tabulate, GridValue}
use Rattle.grid_base.specs.declared.order.Order.TheVariants.{RowMajor}
use Rattle.grid_base.proofs.SpreadLemmas.{wide_lines}
use Rattle.grid.specs.Make.{HasSize, IsMade, MadeBy, FailsBySize}
use Rattle.grid.specs.declared.GridError.TheVariants.{TooLarge}

positive_left : (m s : ℕ) → 0 < m * s → 0 < m
positive_left zero s lt = absurd (omega (arith, lt))
positive_left (suc m) s lt = omega arith

module _ (m n s : ℕ) (size : IsSize m n) where
  scaled : IsSize (m * s) (n * s)
  scaled = record {
    has_cols = λ lt. mul-lt 0 0 n s (size.has_cols (positive_left m s lt)) (wide_lines m s lt);
    has_rows = λ lt. mul-lt 0 0 m s (size.has_rows (positive_left n s lt)) (wide_lines n s lt);
  }

  fails_by : {X : Type 0} → 2 ^ 64 ≤ m * s * (n * s) → FailsBySize {X = X} (m * s) (n * s) (Err TooLarge)
  fails_by large = record { too_large = (λ _. large, λ _. refl); no_cells = λ none. absurd (omega (arith, large, none)) }

  -- too many rows or columns are too many cells
  pub too_high : {X : Type 0} → 2 ^ 64 ≤ m * s → FailsBySize {X = X} (m * s) (n * s) (Err TooLarge)
  too_high large = fails_by (omega (arith, large, le-mul_of_pos_right (m * s) (scaled.has_cols (omega (arith, large)))))

  pub too_wide : {X : Type 0} → 2 ^ 64 ≤ n * s → FailsBySize {X = X} (m * s) (n * s) (Err TooLarge)
  too_wide large =
      fails_by (omega (arith, large, le-mul_of_pos_right (n * s) (scaled.has_rows (omega (arith, large))), mul_comm (m * s) (n * s)))

  -- what a closure made at each position is the table of what it answers
  pub made_of : {F T E : Type 0} (a b : ℕ) → a ≡ m * s → b ≡ n * s → (returns : F → ℕ × ℕ → T → Type 0) (f : F) (h : ℕ → ℕ → Option T) (r : Result (GridValue T) E) → IfOk r (IsMade RowMajor a b) → IfOk r (λ g. MadeBy returns f a b g.rows) → ((i j : ℕ) (y : T) → i < a → j < b → returns f (i, j) y → h i j ≡ Some y) → IfOk r (λ g. g.rows ≡ tabulate (m * s) (n * s) h)
  unfolding tabulate
  made_of a b high wide returns f h (Ok g) made cells is =
      at_size a b (λ lt. omega (arith, scaled.has_cols (omega (arith, lt, high)), wide)) made.size (λ some more. cells.tabulated h is some more)
      ∙ (ap (λ k. tabulate k b h) high ∙ ap (λ k. tabulate (m * s) k h) wide)
    where
      at_size : (a b : ℕ) → (0 < a → 0 < b) → HasSize a b g.rows → (0 < a → 0 < b → g.rows ≡ tabulate a b h) → g.rows ≡ tabulate a b h
      at_size zero b size has is = has.none (omega arith)
      at_size (suc a) b size has is = is (omega arith) (size (omega arith))
  made_of a b high wide returns f h (Err e) made cells is = tt
