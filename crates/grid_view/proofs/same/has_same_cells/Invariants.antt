use Rattle.std.proofs.Common.{◌+◌}
use Rattle.grid_view.specs.Same.{AreSame}
use Rattle.grid_view.proofs.same.has_same_cells.Given as goal

abbrev pub invariant-loop-col : goal.invariant-loop-col
invariant-loop-col g l = AreSame g.T.PartialEq.eq l.view.rows l.other.rows (l.r, l.r + 1) (l.fn.cols.0, l.col)
