-- What a contract sees of a grid: its value by its parts, with one cell written, and with other
-- cells. That the rows are a table whose size fits is proved in grid_base; no other module of
-- specs/ names a lemma of a crate.
use Rattle.std.specs.Prelude.{◌≡◌, ℕ, List, length}
use Rattle.grid_base.specs.Prelude.{row_count, col_count, with_cell, storage, table_of, GridValue, HoldsSize}
use Rattle.grid_base.specs.declared.order.Order.{Order}
use Rattle.grid_base.proofs.ViewLemmas.{view-table, view-fits, IsTable-recut, FitsUsize-recut}
use Rattle.grid_base.proofs.WriteLemmas.{IsTable-with_cell, FitsUsize-with_cell}

module _ {T : Type 0} where
  -- the grid of m rows and n columns with these cells in storage order
  abbrev pub grid_value : (o : Order) (m n : ℕ) (cells : List T) → HoldsSize m n (length cells)
      → GridValue T
  grid_value o m n cells h = record {
    rows = table_of o m n cells;
    order = o;
    table = view-table o m n cells h;
    fits = view-fits o m n cells h;
  }

  -- a grid with w in row r and column c; past its end nothing changes
  abbrev pub with_grid_cell : GridValue T → ℕ → ℕ → T → GridValue T
  with_grid_cell s r c w = record s {
    rows = with_cell s.rows r c w;
    table = IsTable-with_cell s.rows s.table r c w;
    fits = FitsUsize-with_cell s.rows s.table r c w s.fits;
  }

  -- the grid of the same size and order with these cells in storage order
  abbrev pub with_cells : (s : GridValue T) (cells : List T)
      → length cells ≡ length (storage s.order s.rows) → GridValue T
  with_cells s cells e =
      record {
        rows = table_of s.order (row_count s.rows) (col_count s.rows) cells;
        order = s.order;
        table = IsTable-recut s.order s.rows cells s.table e;
        fits = FitsUsize-recut s.order s.rows cells s.table s.fits e;
      }
