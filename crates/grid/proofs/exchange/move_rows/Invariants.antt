use Rattle.grid.proofs.Common.{PartTaken, row_count, col_count}
use Rattle.grid.proofs.Lemmas.{RowsFrom, RowsLeft}
use Rattle.grid.proofs.exchange.move_rows.Given as goal

abbrev pub invariant-loop-row : goal.invariant-loop-row
invariant-loop-row g l =
    let from = l.fn.from in
    record {
      moved : PartTaken (RowsFrom (row_count from.rows) (col_count from.rows) l.row) l.at l.fn.to from l.to from;
      left : RowsLeft l.row from l.cells.items;
    }
