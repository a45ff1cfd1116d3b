-- What calls on all cells of a grid's vector say of the value that a contract sees.
use Rattle.std.proofs.Common.{◌≡◌, ℕ, zero, suc, ◌*◌, ◌<◌, List, [], ◌∷◌, Some, length, map, replicate, refl, sym, ◌∙◌, ap, arith, slice_get}
use Rattle.grid.proofs.Common.{get_or-map, length-map, length-replicate, row, table_of, storage, place, GridValue, HoldsSize, SameSizeAndOrder, same_tables, width-tabulate, IsFull-table_of, place_within, get-replicate, view-rows, view-cols, view-storage, view-cell, grid_value, filled}
use Rattle.grid_base.specs.declared.order.Order.{Order}
use Rattle.grid.proofs.SeenLemmas.{seen_rows, seen_cols}

-- as many other cells in place of a grid's
module _ {T U : Type 0} (o : Order) (m n : ℕ) (cells : List T) (news : List U) (v : GridValue T) (h : HoldsSize m n (length cells)) (e : grid_value o m n cells h ≡ v) (same : length news ≡ length cells) where
  fits : HoldsSize m n (length news)
  fits = rw same h

  pub whole_same : (k : HoldsSize m n (length news)) → SameSizeAndOrder v (grid_value o m n news k)
  whole_same k = record {
    rows = view-rows o m n news k ∙ sym (seen_rows o m n cells v h e);
    cols = view-cols o m n news k ∙ sym (seen_cols o m n cells v h e);
    order = ap (λ x. x.order) e;
  }

  pub whole_cells : storage o (table_of o m n news) ≡ news
  whole_cells = view-storage o m n news fits

module _ {T : Type 0} (w : T) where
  get_filled : (xs : List T) (k : ℕ) → k < length xs → slice_get (map (λ _. w) xs) k ≡ Some w
  get_filled [] k h = absurd (omega arith)
  get_filled (x ∷ xs) zero h = refl
  get_filled (x ∷ xs) (suc k) h = get_filled xs k (omega arith)

  row_filled : (t : List (List T)) (r : ℕ) → r < length t → row (filled w t) r ≡ map (λ _. w) (row t r)
  row_filled t r h = get_or-map (λ (xs : List T). map (λ _. w) xs) t r [] [] h

  module _ (o : Order) (m n : ℕ) (cells : List T) (h : HoldsSize m n (length cells)) where
    filled_at : table_of o m n (replicate (length cells) w) ≡ filled w (table_of o m n cells)
    filled_at =
        let t = table_of o m n cells in
        let u = table_of o m n (replicate (length cells) w) in
        let len = length-replicate (length cells) w in
        let full : length (replicate (length cells) w) ≡ m * n = len ∙ h.cells in
        let fit : HoldsSize m n (length (replicate (length cells) w)) = rw len h in
        let m_new = view-rows o m n (replicate (length cells) w) fit in
        let m_old = view-rows o m n cells h in
        let width : (r : ℕ) → r < m → length (row t r) ≡ n = λ r lr. width-tabulate m n _ r (IsFull-table_of o m n cells h.cells) lr in
        let width_new : (r : ℕ) → r < m → length (row u r) ≡ n = λ r lr. width-tabulate m n _ r (IsFull-table_of o m n (replicate (length cells) w) full) lr in
        let long : length (filled w t) ≡ m = length-map t (λ (xs : List T). map (λ _. w) xs) ∙ m_old in
        same_tables u (filled w t) (m_new ∙ sym long)
        (λ r lt.
        let lr : r < m = omega arith in
        let inside : r < length t = omega arith in
        width_new r lr ∙ sym (ap length (row_filled t r inside) ∙ (length-map (row t r) (λ _. w) ∙ width r lr)))
        (λ r c lt lc.
        let lr : r < m = omega arith in
        let inside : r < length t = omega arith in
        let in_row : c < n = omega (arith, width_new r lr) in
        let in_cells : place o m n r c < length cells = omega (arith, place_within o m n r c lr in_row, h.cells) in
        view-cell o m n (replicate (length cells) w) fit r c lr in_row
        ∙ (get-replicate (length cells) w (place o m n r c) in_cells
        ∙ sym (ap (λ x. slice_get x c) (row_filled t r inside) ∙ get_filled (row t r) c (omega (arith, width r lr)))))

  pub seen_filled : (o : Order) (m n : ℕ) (cells news : List T) (v : GridValue T) (h : HoldsSize m n (length cells)) → grid_value o m n cells h ≡ v → news ≡ replicate (length cells) w → table_of o m n news ≡ filled w v.rows
  seen_filled o m n cells news v h e same =
      ap (table_of o m n) same ∙ (filled_at o m n cells h ∙ ap (λ x. filled w x.rows) e)

-- a grid without rows has no cells
pub seen_none : {T : Type 0} (o : Order) (m n : ℕ) (cells : List T) (v : GridValue T) (h : HoldsSize m n (length cells)) → grid_value o m n cells h ≡ v → v.rows ≡ [] → length cells ≡ 0
seen_none o m n cells v h e none =
    let zero_rows : m ≡ 0 = sym (seen_rows o m n cells v h e) ∙ ap length none in omega (arith, h.cells, ap (λ x. x * n) zero_rows)
