use Rattle.std.proofs.Common.{rules}
use Rattle.grid_base.proofs.tally.Tally.shift.Goals as goal

pub returns : goal.returns
returns = search rules
