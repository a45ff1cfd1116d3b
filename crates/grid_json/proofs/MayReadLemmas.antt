-- What may be read by one relation may be read by one that allows more.
use Rattle.std.proofs.Common.{inl, inr, ℕ, Option, Some, Result, Ok, Err, List, [], ◌∷◌, length, None}
use Rattle.grid_json.proofs.Common.{AllZip, GridValue, Data, AreCells, AreRows, IsBadCell, IsBadRow, IsFault, IsRow, MayRead, MayReadItems}
use Rattle.grid_json.specs.declared.error.RowsError.{RowsError}
use Rattle.grid_json.specs.declared.error.RowsError.TheVariants.{Memory, NotRows, NotRow, BadCell, Ragged}

module _ {T : Type 0} (R S : Data → Option T → Type 0) (more : (d : Data) (cell : Option T) → R d cell → S d cell) where
  cells_more : (items : List Data) (row : List T) → AreCells R items row → AreCells S items row
  cells_more [] [] are = tt
  cells_more [] (cell ∷ row) are = absurd are
  cells_more (d ∷ items) [] are = absurd are
  cells_more (d ∷ items) (cell ∷ row) are = (more d (Some cell) are.0, cells_more items row are.1)

  row_more : (d : Data) (row : List T) → IsRow R d row → IsRow S d row
  row_more d row r = record { items = r.items; is = r.is; are_cells = cells_more r.items row r.are_cells }

  lines_more : (items : List Data) (rows : List (List T)) → AllZip (IsRow R) items rows → AllZip (IsRow S) items rows
  lines_more [] [] are = tt
  lines_more [] (row ∷ rows) are = absurd are
  lines_more (d ∷ items) [] are = absurd are
  lines_more (d ∷ items) (row ∷ rows) are = (row_more d row are.0, lines_more items rows are.1)

  rows_more : (items : List Data) (cols : ℕ) (rows : List (List T)) → AreRows R items cols rows → AreRows S items cols rows
  rows_more items cols rows r = record { are_rows = lines_more items rows r.are_rows; even = r.even }

  bad_cell_more : (d : Data) (col : ℕ) → IsBadCell R d col → IsBadCell S d col
  bad_cell_more d col b = record {
    before = b.before;
    bad = b.bad;
    after = b.after;
    cells = b.cells;
    is = b.is;
    is_col = b.is_col;
    are_cells = cells_more b.before b.cells b.are_cells;
    no_cell = more b.bad None b.no_cell;
  }

  bad_row_more : (index cols : ℕ) (d : Data) (e : RowsError) → IsBadRow R index cols d e → IsBadRow S index cols d e
  bad_row_more index cols d NotRows b = b
  bad_row_more index cols d (NotRow row) b = b
  bad_row_more index cols d (BadCell row col) b = (b.0, bad_cell_more d col b.1)
  bad_row_more index cols d (Ragged row len n) (is, some, cols_is, ne, (cells, r, len_is)) = (is, some, cols_is, ne, (cells, row_more d cells r, len_is))
  bad_row_more index cols d Memory b = b

  fault_more : (items : List Data) (e : RowsError) → IsFault R items e → IsFault S items e
  fault_more items e f = record {
    before = f.before;
    bad = f.bad;
    after = f.after;
    cols = f.cols;
    rows = f.rows;
    parts = f.parts;
    are = rows_more f.before f.cols f.rows f.are;
    is_bad = bad_row_more (length f.before) f.cols f.bad e f.is_bad;
  }

  items_more : (items : List Data) (answer : Result (GridValue T) RowsError) → MayReadItems R items answer → MayReadItems S items answer
  items_more items (Ok g) (order, (cols, rows, are, is)) = (order, (cols, rows, rows_more items cols rows are, is))
  items_more items (Err e) (inl none) = inl none
  items_more items (Err e) (inr f) = inr (fault_more items e f)

  pub may_more : (d : Data) (answer : Result (GridValue T) RowsError) → MayRead R d answer → MayRead S d answer
  may_more d answer (inl none) = inl none
  may_more d answer (inr (items, is, may)) = inr (items, is, items_more items answer may)
