use Rattle.std.proofs.Common.{◌+◌, ◌-◌}
use Rattle.grid_base.proofs.Common.{Mirrored}
use Rattle.grid_base.proofs.flat.square.+swap_across.Given as goal

abbrev pub decreases-swap_across : goal.decreases-swap_across
decreases-swap_across g l = (l.rows.1 - l.rows.0) + (l.cols.1 - l.cols.0)

abbrev pub invariant-loop-row : goal.invariant-loop-row
invariant-loop-row g l = Mirrored l.side l.fn.rows.0 l.row l.fn.cols.0 l.fn.cols.1 l.fn.cells l.cells
