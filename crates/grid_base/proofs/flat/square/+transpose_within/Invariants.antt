use Rattle.std.proofs.Common.{◌-◌}
use Rattle.grid_base.proofs.flat.square.+transpose_within.Given as goal

abbrev pub decreases-transpose_within : goal.decreases-transpose_within
decreases-transpose_within g l = l.to - l.from
