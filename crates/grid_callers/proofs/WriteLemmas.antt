-- Tables that are written out.
use Rattle.std.proofs.Common.{◌≡◌, ◌≢◌, ℕ, zero, suc, ◌*◌, ◌<◌, List, [], ◌∷◌, Option, None, Some, Result, Ok, Err, IfOk, length, map, refl, sym, ◌∙◌, ap, arith, slice_get, option_map}
use Rattle.grid.specs.Prelude.{row, row_count, col_count, cell, IsTable, GridValue, HasSize, IsMade, HoldCells, AreTaken}
use Rattle.grid_base.proofs.TableLemmas.{same_tables}
use Rattle.grid_base.specs.declared.order.Order.{Order}

module _ {T : Type 0} where
  -- rows of slots that hold the cells of a table
  abbrev pub slots : List (List T) → List (List (Option T))
  slots t = map (map Some) t

  row-slots : (t : List (List T)) (r : ℕ) → row (slots t) r ≡ map Some (row t r)
  row-slots [] r = refl
  row-slots (x ∷ t) zero = refl
  row-slots (x ∷ t) (suc r) = row-slots t r

  get-slots : (xs : List T) (c : ℕ) → slice_get (map Some xs) c ≡ option_map Some (slice_get xs c)
  get-slots [] c = refl
  get-slots (x ∷ xs) zero = refl
  get-slots (x ∷ xs) (suc c) = get-slots xs c

  same_cell : (x y : Option T) → option_map Some x ≡ option_map Some y → x ≡ y
  same_cell None None e = refl
  same_cell None (Some y) e = absurd (cc)
  same_cell (Some x) None e = absurd (cc)
  same_cell (Some x) (Some y) e = cc

  -- a table of this size whose cells these slots hold is this one
  pub as_written : (m n : ℕ) (t u : List (List T)) → m * n ≢ 0 → HasSize m n t → IsTable t → HoldCells m n (slots u) t → IsTable u → row_count u ≡ m → col_count u ≡ n → t ≡ u
  as_written m n t u some size table held whole rows cols =
      same_tables t u (size.rows some ∙ sym rows)
      (λ r lt. table.even r lt ∙ (size.cols some ∙ (sym cols ∙ sym (whole.even r (omega (arith, size.rows some, rows))))))
      (λ r c lt lc.
      let in_rows : r < m = omega (arith, size.rows some) in
      let in_cols : c < n = omega (arith, table.even r lt, size.cols some) in
      same_cell (cell t r c) (cell u r c) (sym (held r c in_rows in_cols) ∙ (ap (λ xs. slice_get xs c) (row-slots u r) ∙ get-slots (row u r) c)))

  pub if_written : {E : Type 0} (o : Order) (m n : ℕ) (u : List (List T)) (left : List (List (Option T))) (r : Result (GridValue T) E) → m * n ≢ 0 → IsTable u → row_count u ≡ m → col_count u ≡ n → IfOk r (IsMade o m n) → IfOk r (λ g. AreTaken m n (slots u) left g.rows) → IfOk r (λ g. g.rows ≡ u)
  if_written o m n u left (Ok g) some whole rows cols made taken = as_written m n g.rows u some made.size g.table taken.held whole rows cols
  if_written o m n u left (Err e) some whole rows cols made taken = tt

  pub IsTable-two : (x y : List T) → length y ≡ length x → 0 < length x → IsTable (x ∷ y ∷ [])
  IsTable-two x y same some = record { nonempty = nonempty; even = even }
    where
      nonempty : (r : ℕ) → r < 2 → 0 < length (row (x ∷ y ∷ []) r)
      nonempty zero lt = some
      nonempty (suc zero) lt = omega (arith, same)
      nonempty (suc (suc r)) lt = absurd (omega arith)

      even : (r : ℕ) → r < 2 → length (row (x ∷ y ∷ []) r) ≡ length x
      even zero lt = refl
      even (suc zero) lt = same
      even (suc (suc r)) lt = absurd (omega arith)
