use Rattle.std.proofs.Common.{rules}
use Rattle.grid.proofs.grid.Grid.order.Goals as goal

pub returns : goal.returns
returns g c = search rules
