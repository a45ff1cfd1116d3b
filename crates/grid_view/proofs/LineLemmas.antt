-- The lines of a view.
use Rattle.std.proofs.Common.{◌≡◌, ℕ, ◌+◌, ◌-◌, ◌*◌, ◌<◌, ◌≤◌, List, length, take, drop, slice_get, refl, sym, ◌∙◌, ap, arith, length-drop, length-take-le}
use Rattle.grid_base.proofs.Common.{counted, line_cells, row}
use Rattle.grid_base.proofs.TableLemmas.{same_cells, counted_within}
use Rattle.grid_base.proofs.StorageLemmas.{get-take, get-drop}
use Rattle.grid_base.proofs.SteppedLemmas.{is_line}
use Rattle.grid_view.specs.declared.axis.ViewAxis.{ViewAxis}
use Rattle.grid_view.specs.View.{offset, HoldsView}
use Rattle.grid_view.specs.Value.{ViewValue, view_value, place_within}
use Rattle.grid_view.proofs.SeenLemmas.{seen_rows, seen_cols, seen_at}

module _ {T : Type 0} where
  -- a row of a view
  module _ (rows cols : ViewAxis) (cells : List T) (h : HoldsView rows cols (length cells)) (v : ViewValue T) (e : view_value rows cols cells h ≡ v) (r : ℕ) (lr : r < rows.count) where
    pub row_some : 0 < cols.count
    row_some = h.size.has_cols (omega arith)

    pub row_within : offset rows r + (cols.count - 1) * cols.stride < length cells
    row_within = h.within (counted rows.backwards rows.count r) (cols.count - 1) (counted_within rows.backwards rows.count r lr) (omega (arith, row_some))

    width : length (row v.rows r) ≡ cols.count
    width = v.table.even r (omega (arith, seen_rows rows cols cells h v e)) ∙ seen_cols rows cols cells h v e

    pub row_is : (start : ℕ) → start ≡ offset rows r → line_cells start cols.count cols.stride cols.backwards cells ≡ row v.rows r
    row_is start same =
        sym (is_line start cols.count cols.stride cells (λ _. omega (arith, row_within, same)) cols.backwards (row v.rows r) width
        (λ c lc. seen_at rows cols cells h v e r c lr lc ∙ ap (λ x. slice_get cells (x + offset cols c)) (sym same)))

    -- the cells of a row that are side by side, the first first
    module _ (start : ℕ) (same : start ≡ offset rows r) (steps : (c : ℕ) → c < cols.count → offset cols c ≡ c * 1) where
      pub side_within : start + cols.count ≤ length cells
      side_within =
          let last : cols.count - 1 < cols.count = omega (arith, row_some) in
          omega (arith, place_within rows cols (length cells) h r (cols.count - 1) lr last, steps (cols.count - 1) last)

      pub side_by_side : take (start + cols.count - start) (drop start cells) ≡ row v.rows r
      side_by_side =
          let n : start + cols.count - start ≡ cols.count = omega arith in
          let side = take cols.count (drop start cells) in
          let long : length side ≡ cols.count = length-take-le cols.count (drop start cells) (omega (arith, length-drop start cells, side_within)) in
          ap (λ k. take k (drop start cells)) n
          ∙ same_cells side (row v.rows r) (long ∙ sym width)
          (λ c lt.
          let lc : c < cols.count = omega (arith, long) in
          let at : start + c ≡ offset rows r + offset cols c = omega (arith, steps c lc) in
          get-take cols.count (drop start cells) c lc
          ∙ (get-drop start cells (start + c) c refl ∙ (ap (slice_get cells) at ∙ sym (seen_at rows cols cells h v e r c lr lc))))
