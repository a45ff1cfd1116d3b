use Rattle.std.proofs.Common.{◌+◌}
use Rattle.grid_base.proofs.flat.transpose.+transpose_cells.Given as goal

abbrev pub decreases-transpose_cells : goal.decreases-transpose_cells
decreases-transpose_cells g l = l.lines + l.width
