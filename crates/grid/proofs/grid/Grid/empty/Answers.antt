use Rattle.std.proofs.Common.{rules}
use Rattle.grid.proofs.grid.Grid.empty.Goals as goal

pub returns-clause-order : goal.returns-clause-order
returns-clause-order g c = search rules
