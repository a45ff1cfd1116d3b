-- The first cells have come.
use Rattle.std.proofs.Common.{◌≡◌}
use Rattle.grid_lines.specs.Brought.{brought}
use Rattle.grid_lines.proofs.rewrite.bring.Given as goal

abbrev pub invariant-loop-col : goal.invariant-loop-col
invariant-loop-col g l = l.cells ≡ brought l.rows l.row l.col l.fn.cells
