-- What a contract sees of a view. That its rows are a table whose size fits is proved here, from
-- lemmas of grid_base.
use Rattle.std.specs.Prelude.{ℕ, ◌+◌, ◌<◌, List, length}
use Rattle.grid_base.specs.Prelude.{counted, row_count, col_count, IsTable, FitsUsize}
use Rattle.grid_base.proofs.TableLemmas.{IsFull, IsSome_within, IsTable-tabulate, counted_within}
use Rattle.grid_base.proofs.ViewLemmas.{FitsUsize-tabulate}
use Rattle.grid_view.specs.declared.axis.ViewAxis.{ViewAxis}
use Rattle.grid_view.specs.View.{offset, seen, seen_cell, HoldsView}

-- a table of rows, that it is a table, and that its size fits
pub record ViewValue (T : Type 0) : Type 0 where
  pub rows : List (List T)
  pub table : IsTable rows
  pub fits : FitsUsize (row_count rows) (col_count rows)

pub place_within : (rows cols : ViewAxis) (len : ℕ) → HoldsView rows cols len → (r c : ℕ)
    → r < rows.count → c < cols.count → offset rows r + offset cols c < len
place_within rows cols len h r c lr lc = h.within (counted rows.backwards rows.count r)
    (counted cols.backwards cols.count c) (counted_within rows.backwards rows.count r lr)
    (counted_within cols.backwards cols.count c lc)

pub IsFull-seen : {T : Type 0} (rows cols : ViewAxis) (cells : List T)
    → HoldsView rows cols (length cells) → IsFull rows.count cols.count (seen_cell rows cols cells)
IsFull-seen rows cols cells h = record {
  full = λ r c lr lc.
      IsSome_within cells (offset rows r + offset cols c)
      (place_within rows cols (length cells) h r c lr lc);
}

-- what two axes over the cells show
abbrev pub view_value : {T : Type 0} (rows cols : ViewAxis) (cells : List T)
    → HoldsView rows cols (length cells) → ViewValue T
view_value rows cols cells h = record {
  rows = seen rows cols cells;
  table = IsTable-tabulate rows.count cols.count (seen_cell rows cols cells) h.size
      (IsFull-seen rows cols cells h);
  fits = FitsUsize-tabulate rows.count cols.count (seen_cell rows cols cells) h.size h.below
      (IsFull-seen rows cols cells h);
}
