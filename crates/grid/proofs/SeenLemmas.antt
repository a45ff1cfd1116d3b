-- What a grid's fields say of the value that a contract sees.
use Rattle.std.proofs.Common.{◌≡◌, ◌<◌, ◌≤◌, ◌*◌, ◌^◌, ℕ, zero, suc, List, [], length, sym, ◌∙◌, ap, arith, lit<, mul_comm, ◌↔◌, IsTrue, nat_eq, eqb-true, eq-eqb}
use Rattle.grid.proofs.Common.{row_count, col_count, InRange, table_of, storage, GridValue, HoldsSize, nil_from_length, same_grid_value, view-rows, view-cols, view-storage, grid_value}
use Rattle.grid_base.specs.declared.order.Order.{Order}

grows : (m n : ℕ) → 0 < n → m ≤ m * n
grows zero n h = omega arith
grows (suc m) n h = omega (arith, grows m n h)

-- fewer than 2^63 cells have fewer rows and fewer columns
pub sides_small : (m n len : ℕ) → HoldsSize m n len → len < 2 ^ 63 → (m < 2 ^ 63) × (n < 2 ^ 63)
sides_small zero zero len h lt = (lit< tt, lit< tt)
sides_small zero (suc n) len h lt = absurd (omega (arith, h.size.has_rows (omega arith)))
sides_small (suc m) zero len h lt = absurd (omega (arith, h.size.has_cols (omega arith)))
sides_small (suc m) (suc n) len h lt = (
  omega (arith, grows (suc m) (suc n) (omega arith), h.cells, lt),
  omega (arith, grows (suc n) (suc m) (omega arith), mul_comm (suc m) (suc n), h.cells, lt),
)

module _ {T : Type 0} (o : Order) (m n : ℕ) (cells : List T) (s : GridValue T) (h : HoldsSize m n (length cells)) where
  pub seen_rows : grid_value o m n cells h ≡ s → row_count s.rows ≡ m
  seen_rows e = sym (ap (λ x. row_count x.rows) e) ∙ view-rows o m n cells h

  pub seen_cols : grid_value o m n cells h ≡ s → col_count s.rows ≡ n
  seen_cols e = sym (ap (λ x. col_count x.rows) e) ∙ view-cols o m n cells h

  pub seen_storage : grid_value o m n cells h ≡ s → storage s.order s.rows ≡ cells
  seen_storage e = rw (← e) (view-storage o m n cells h)

  pub seen_empty : grid_value o m n cells h ≡ s → IsTrue (nat_eq m 0) ↔ (s.rows ≡ [])
  seen_empty e = (
    λ none. nil_from_length s.rows (omega (arith, seen_rows e, eqb-true m 0 none)),
    λ none. eq-eqb m 0 (sym (seen_rows e) ∙ ap length none),
  )

  -- a position in range of the value is in range of the fields
  pub seen_row_in : (r c : ℕ) → grid_value o m n cells h ≡ s → InRange s.rows r c → r < m
  seen_row_in r c e p = rw (seen_rows e) at p.0

  pub seen_col_in : (r c : ℕ) → grid_value o m n cells h ≡ s → InRange s.rows r c → c < n
  seen_col_in r c e p = rw (seen_cols e) at p.1

  -- the same cells show the same value
  pub seen_same : grid_value o m n cells h ≡ s → (news : List T) (k : HoldsSize m n (length news)) → news ≡ cells → grid_value o m n news k ≡ s
  seen_same e news k same = same_grid_value _ _ (ap (table_of o m n) same ∙ ap (λ x. x.rows) e) (ap (λ x. x.order) e)
