use Rattle.std.proofs.Common.{◌+◌}
use Rattle.grid_base.proofs.Common.{Mirrored}
use Rattle.grid_base.proofs.flat.square.swap_row_across.Given as goal

abbrev pub invariant-loop-col : goal.invariant-loop-col
invariant-loop-col g l = Mirrored l.side l.row (l.row + 1) l.fn.cols.0 l.col l.fn.cells l.cells
