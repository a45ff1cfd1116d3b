use Rattle.std.proofs.Common.{◌+◌, ◌-◌}
use Rattle.grid_view.proofs.same.+has_same_halves.Given as goal

abbrev pub decreases-has_same_halves : goal.decreases-has_same_halves
decreases-has_same_halves g l = (l.rows.1 - l.rows.0) + (l.cols.1 - l.cols.0)
