-- The last cells have gone back.
use Rattle.std.proofs.Common.{◌≡◌}
use Rattle.grid_lines.specs.Brought.{taken_back}
use Rattle.grid_lines.proofs.rewrite.take_back.Given as goal

abbrev pub invariant-loop-col : goal.invariant-loop-col
invariant-loop-col g l = taken_back l.rows l.row l.col l.cells ≡ taken_back l.rows l.row l.cols l.fn.cells
