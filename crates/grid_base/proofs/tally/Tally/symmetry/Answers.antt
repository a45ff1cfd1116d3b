use Rattle.std.proofs.Common.{rules}
use Rattle.grid_base.proofs.tally.Tally.symmetry.Goals as goal

pub returns : goal.returns
returns = search rules
