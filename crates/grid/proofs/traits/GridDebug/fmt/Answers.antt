use Rattle.std.proofs.Common.{rules}
use Rattle.grid.proofs.traits.GridDebug.fmt.Goals as goal

pub returns : goal.returns
returns = search rules
