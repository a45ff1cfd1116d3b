use Rattle.std.proofs.Common.{◌≡◌}
use Rattle.grid.specs.Prelude.{row_count, col_count}
use Rattle.grid_callers.proofs.loops.paint.Given as goal

abbrev pub invariant-loop-row : goal.invariant-loop-row
invariant-loop-row l = row_count l.grid.rows ≡ l.row-end

abbrev pub invariant-loop-col : goal.invariant-loop-col
invariant-loop-col l = (row_count l.grid.rows ≡ l.row-end) × (col_count l.grid.rows ≡ l.col-end)
