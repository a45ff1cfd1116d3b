use Rattle.std.proofs.Common.{sym, arith, rules}
use Rattle.grid.proofs.grid.Grid.set.Goals as goal
use Rattle.grid.proofs.grid.Grid.set.Goals.{else-row-rows-via-then-row-rows+else-col-cols, else-row-rows-via-else-row-rows}
use Rattle.grid.proofs.Common.{past_cols, cell_past_rows}

pub returns-else-row-rows-clause-cell : goal.returns-else-row-rows-clause-cell
returns-else-row-rows-clause-cell g c =
    let t = c.args.self.now.rows in
    elim c.else-row-rows.branch [
      | else-row-rows-via-then-row-rows+else-col-cols w ↦ sym (past_cols t c.args.self.now.table c.args.row _ (omega (arith, w.if-col-cols.false, c.size-rows.ensures.cols)))
      | else-row-rows-via-else-row-rows w ↦ sym (cell_past_rows t _ c.args.col (omega (arith, w.if-row-rows.false, c.size-rows.ensures.rows)))
    ]

pub returns-then-col-cols-clause-cell : goal.returns-then-col-cols-clause-cell
returns-then-col-cols-clause-cell = search rules

pub returns-then-col-cols-clause-rows : goal.returns-then-col-cols-clause-rows
returns-then-col-cols-clause-rows = search rules
