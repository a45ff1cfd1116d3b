-- A grid of the cells of a view.
use Rattle.std.proofs.Common.{◌≡◌, ◌≢◌, ◌⊎◌, ℕ, ◌+◌, ◌*◌, ◌<◌, ◌≤◌, Option, List, [], length, sym, ◌∙◌, ap, subst, arith, inl, inr, ⊎_elim, Result, Ok, Err, IfOk}
use Rattle.grid.proofs.Common.{cases_eq, cases_lt, mul-le, GridValue, row_count, col_count, cell, IsTable, storage, IsFull, IsFull-cells, rows-tabulate, cols-tabulate, same_by_storage, none_by_storage, sub_table, HasSize, IsMade}
use Rattle.grid_base.specs.declared.order.Order.{Order}

-- the table that is cut from the storage of another, at its width, is that table
pub from_storage : {T : Type 0} (o : Order) (t u : List (List T)) → IsTable t → IsTable u → (cells : List T) (width : ℕ) → cells ≡ storage o t → storage o u ≡ cells → width ≡ col_count t → (length cells ≢ 0 → col_count u ≡ width) → u ≡ t
from_storage o t u ht hu cells width stored made wide cols =
    ⊎_elim (λ none. none_by_storage o u hu (ap length made ∙ none) ∙ sym (none_by_storage o t ht (ap length (sym stored) ∙ none)))
    (λ some. same_by_storage o u t hu ht (cols some ∙ wide) (made ∙ stored))
    (cases_eq (length cells) 0)

-- a product of two numbers of which one is 0
pub none_of : (m n : ℕ) → m * n ≡ 0 → (m ≡ 0) ⊎ (n ≡ 0)
none_of m n e =
    ⊎_elim {C = (m ≡ 0) ⊎ (n ≡ 0)} (λ some. ⊎_elim {C = (m ≡ 0) ⊎ (n ≡ 0)} (λ more. absurd (omega (arith, e, mul-le 1 1 m n some more))) (λ none. inr (omega arith)) (cases_lt 0 n))
    (λ none. inl (omega arith)) (cases_lt 0 m)

-- the size of a part of a table
pub part_size : {T : Type 0} (t u : List (List T)) (at size : ℕ × ℕ) → IsTable t → at.0 + size.0 ≤ row_count t → at.1 + size.1 ≤ col_count t → (0 < size.0 → 0 < size.1 → u ≡ sub_table t at size) → ((size.0 ≡ 0) ⊎ (size.1 ≡ 0) → u ≡ []) → HasSize size.0 size.1 u
part_size {T} t u at size h rows_in cols_in part none =
    record {
      none = λ e. none (none_of size.0 size.1 e);
      rows = λ some. ap row_count (is some) ∙ rows-tabulate size.0 size.1 cells;
      cols = λ some. ap col_count (is some) ∙ cols-tabulate size.0 size.1 cells (record { has_cols = λ a. (both some).1; has_rows = λ a. (both some).0 }) full;
    }
  where
    cells : ℕ → ℕ → Option T
    cells r c = cell t (at.0 + r) (at.1 + c)

    both : size.0 * size.1 ≢ 0 → (0 < size.0) × (0 < size.1)
    both some = (
      ⊎_elim {C = 0 < size.0} (λ lt. lt) (λ ge. let e : size.0 ≡ 0 = omega (arith, ge) in absurd (some (ap (λ x. x * size.1) e ∙ omega arith))) (cases_lt 0 size.0),
      ⊎_elim {C = 0 < size.1} (λ lt. lt) (λ ge. let e : size.1 ≡ 0 = omega (arith, ge) in absurd (some (ap (λ x. size.0 * x) e ∙ omega arith))) (cases_lt 0 size.1),
    )

    is : size.0 * size.1 ≢ 0 → u ≡ sub_table t at size
    is some = part (both some).0 (both some).1

    full : IsFull size.0 size.1 cells
    full = record { full = λ r c lr lc. (IsFull-cells t h).full (at.0 + r) (at.1 + c) (omega (arith, rows_in, lr)) (omega (arith, cols_in, lc)) }

-- the grid of a part
pub made_part : {T E : Type 0} (r : Result (GridValue T) E) (o k : Order) (m n : ℕ) (p : List (List T)) → o ≡ k → HasSize m n p → IfOk r (λ g. g.rows ≡ p) → IfOk r (λ g. g.order ≡ o) → IfOk r (IsMade k m n)
made_part (Ok g) o k m n p e h rows order = record { order = order ∙ e; size = subst (HasSize m n) (sym rows) h }
made_part (Err x) o k m n p e h rows order = tt
