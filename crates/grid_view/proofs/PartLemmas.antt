-- A part of a table: its cells, and what a write to one of them leaves.
use Rattle.std.proofs.Common.{◌≡◌, ℕ, ◌+◌, ◌*◌, ◌<◌, ◌≤◌, ⊎_elim, ◌⊎◌, inl, None, List, [], length, set, slice_get, sym, ap, ◌∙◌, arith, zero-add}
use Rattle.grid_base.proofs.Common.{row_count, col_count, cell, with_cell, tabulate, IsTable, IsSize, table_of, place, HoldsSize, nil_from_length, cases_lt}
use Rattle.grid_base.proofs.TableLemmas.{IsFull, IsFull-cells, rows-tabulate, cols-tabulate, cell-tabulate, tabulate-same, tabulate-cells, cell_past_rows, past_cols}
use Rattle.grid_base.proofs.ViewLemmas.{view-cell}
use Rattle.grid_base.proofs.WriteLemmas.{same_or_other, rows-written, cols-with_cell, IsTable-with_cell, cell-with_same, cell-with_other, view-write}
use Rattle.grid_base.proofs.StorageLemmas.{place_within}
use Rattle.grid_base.specs.declared.layout.Layout.{Layout}
use Rattle.grid_view.specs.View.{sub_table}
use Rattle.grid_view.specs.Part.{IsPart, fits-board, full-part, IsTable-part, IsTable-board, within-board, IsTable-shown}

module _ {T : Type 0} (t : List (List T)) (h : IsTable t) (at size : ℕ × ℕ) (p : IsPart (row_count t) (col_count t) at size) where
  pub rows-part : row_count (sub_table t at size) ≡ size.0
  rows-part = rows-tabulate size.0 size.1 _

  pub cols-part : col_count (sub_table t at size) ≡ size.1
  cols-part = cols-tabulate size.0 size.1 _ p.none (full-part t h at size p)

  pub cell-part : (r c : ℕ) → r < size.0 → c < size.1 → cell (sub_table t at size) r c ≡ cell t (at.0 + r) (at.1 + c)
  cell-part r c lr lc = cell-tabulate size.0 size.1 _ r c (full-part t h at size p) lr lc

  module _ (r c : ℕ) (lr : r < size.0) (lc : c < size.1) (w : T) where
    abbrev part : List (List T)
    part = sub_table t at size

    table-part : IsTable part
    table-part = IsTable-part t h at size p

    abbrev new : List (List T)
    new = with_cell part r c w

    table-new : IsTable new
    table-new = IsTable-with_cell part table-part r c w

    rows-new : row_count new ≡ size.0
    rows-new = rows-written part r c w ∙ rows-part

    cols-new : col_count new ≡ size.1
    cols-new = cols-with_cell part table-part r c w ∙ cols-part

    full-new : IsFull size.0 size.1 (cell new)
    full-new = record { full = λ i j li lj. (IsFull-cells new table-new).full i j (omega (arith, rows-new, li)) (omega (arith, cols-new, lj)) }

    cells-new : (i j : ℕ) → i < size.0 → j < size.1 → cell (with_cell t (at.0 + r) (at.1 + c) w) (at.0 + i) (at.1 + j) ≡ cell new i j
    cells-new i j li lj =
        ⊎_elim (λ e.
        ap (λ (q : ℕ × ℕ). cell (with_cell t (at.0 + r) (at.1 + c) w) (at.0 + q.0) (at.1 + q.1)) e
        ∙ (cell-with_same t h (at.0 + r) (at.1 + c) w (omega (arith, p.rows_in, lr)) (omega (arith, p.cols_in, lc))
        ∙ sym (ap (λ (q : ℕ × ℕ). cell new q.0 q.1) e ∙ cell-with_same part table-part r c w (omega (arith, rows-part, lr)) (omega (arith, cols-part, lc)))))
        (λ far.
        cell-with_other t (at.0 + r) (at.1 + c) w (at.0 + i) (at.1 + j) (λ e f. far (omega (arith, e)) (omega (arith, f)))
        ∙ (sym (cell-part i j li lj) ∙ sym (cell-with_other part r c w i j far)))
        (same_or_other (i, j) (r, c))

    -- a write to a cell of the part
    pub part-written : sub_table (with_cell t (at.0 + r) (at.1 + c) w) at size ≡ new
    part-written =
        tabulate-same size.0 size.1 _ _ cells-new full-new
        ∙ (ap (λ m. tabulate m size.1 (cell new)) (sym rows-new)
        ∙ (ap (λ n. tabulate (row_count new) n (cell new)) (sym cols-new) ∙ tabulate-cells new table-new))

-- the part of all cells
pub part-all : {T : Type 0} (t : List (List T)) → IsTable t → sub_table t (0, 0) (row_count t, col_count t) ≡ t
part-all t h =
    tabulate-same (row_count t) (col_count t) _ _
    (λ r c lr lc. ap (λ x. cell t x (0 + c)) (zero-add r) ∙ ap (cell t r) (zero-add c))
    (IsFull-cells t h)
    ∙ tabulate-cells t h

-- what shows a part where it has cells, and nothing where it has none, shows the part
pub part-or-none : {T : Type 0} (t u : List (List T)) (at size : ℕ × ℕ) → IsSize size.0 size.1 → (0 < size.0 → 0 < size.1 → u ≡ sub_table t at size) → ((size.0 ≡ 0) ⊎ (size.1 ≡ 0) → u ≡ []) → u ≡ sub_table t at size
part-or-none t u at size s some none =
    ⊎_elim (λ lt. some lt (s.has_cols lt))
    (λ past.
    let zero : size.0 ≡ 0 = omega (arith, past) in
    none (inl zero) ∙ sym (nil_from_length (sub_table t at size) (rows-tabulate size.0 size.1 _ ∙ zero)))
    (cases_lt 0 size.0)

-- a part of a table that is stored
module _ {T : Type 0} (b : Layout) (cells : List T) (stored : length cells ≡ b.rows * b.cols) (at size : ℕ × ℕ) (p : IsPart b.rows b.cols at size) where
  abbrev board : List (List T)
  board = table_of b.order b.rows b.cols cells

  fits : HoldsSize b.rows b.cols (length cells)
  fits = fits-board b cells stored at size p

  pub rows-shown : row_count (sub_table board at size) ≡ size.0
  rows-shown = rows-part board (IsTable-board b cells stored at size p) at size (within-board b cells stored at size p)

  pub cols-shown : col_count (sub_table board at size) ≡ size.1
  cols-shown = cols-part board (IsTable-board b cells stored at size p) at size (within-board b cells stored at size p)

  pub past_shown_rows : (r c : ℕ) → size.0 ≤ r → cell (sub_table board at size) r c ≡ None
  past_shown_rows r c past = cell_past_rows (sub_table board at size) r c (omega (arith, rows-shown, past))

  pub past_shown_cols : (r c : ℕ) → size.1 ≤ c → cell (sub_table board at size) r c ≡ None
  past_shown_cols r c past = past_cols (sub_table board at size) (IsTable-shown b cells stored at size p) r c (omega (arith, cols-shown, past))

  module _ (r c : ℕ) (lr : r < size.0) (lc : c < size.1) where
    abbrev at_place : ℕ
    at_place = place b.order b.rows b.cols (at.0 + r) (at.1 + c)

    row_in : at.0 + r < b.rows
    row_in = omega (arith, p.rows_in, lr)

    col_in : at.1 + c < b.cols
    col_in = omega (arith, p.cols_in, lc)

    pub at_within : at_place < length cells
    at_within = omega (arith, stored, place_within b.order b.rows b.cols (at.0 + r) (at.1 + c) row_in col_in)

    pub cell-shown : cell (sub_table board at size) r c ≡ slice_get cells at_place
    cell-shown = cell-part board (IsTable-board b cells stored at size p) at size (within-board b cells stored at size p) r c lr lc ∙ view-cell b.order b.rows b.cols cells fits (at.0 + r) (at.1 + c) row_in col_in

    -- a write to its place
    pub board-set : (w : T) → table_of b.order b.rows b.cols (set cells at_place w) ≡ with_cell board (at.0 + r) (at.1 + c) w
    board-set w = view-write b.order b.rows b.cols cells fits (at.0 + r) (at.1 + c) row_in col_in w

    pub shown-set : (w : T) → sub_table (table_of b.order b.rows b.cols (set cells at_place w)) at size ≡ with_cell (sub_table board at size) r c w
    shown-set w = ap (λ t. sub_table t at size) (board-set w) ∙ part-written board (IsTable-board b cells stored at size p) at size (within-board b cells stored at size p) r c lr lc w
