use Rattle.std.proofs.Common.{rules, sym, arith}
use Rattle.grid.proofs.Common.{past_cols, cell_past_rows}
use Rattle.grid.proofs.grid.Grid.get.Goals as goal
use Rattle.grid.proofs.grid.Grid.get.Goals.{else-row-rows-via-then-row-rows+else-col-cols, else-row-rows-via-else-row-rows}

pub returns-else-row-rows : goal.returns-else-row-rows
returns-else-row-rows g c =
    record {
      cell = sym (elim c.else-row-rows.branch [
        | else-row-rows-via-then-row-rows+else-col-cols w ↦ past_cols c.args.self.now.rows c.args.self.now.table c.args.row _ (omega (arith, w.if-col-cols.false, c.size-rows.ensures.cols))
        | else-row-rows-via-else-row-rows w ↦ cell_past_rows c.args.self.now.rows _ c.args.col (omega (arith, w.if-row-rows.false, c.size-rows.ensures.rows))
      ]);
      in_range = tt;
    }

pub returns-then-col-cols : goal.returns-then-col-cols
returns-then-col-cols g c = search rules
