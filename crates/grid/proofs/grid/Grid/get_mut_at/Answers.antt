use Rattle.std.proofs.Common.{rules}
use Rattle.grid.proofs.grid.Grid.get_mut_at.Goals as goal

pub returns : goal.returns
returns = search rules
