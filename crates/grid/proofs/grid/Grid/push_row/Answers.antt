use Rattle.std.proofs.Common.{rules}
use Rattle.grid.proofs.grid.Grid.push_row.Goals as goal

pub returns-clause-rows : goal.returns-clause-rows
returns-clause-rows g c = search rules

pub returns-clause-order : goal.returns-clause-order
returns-clause-order g c = search rules

pub returns-clause-fails : goal.returns-clause-fails
returns-clause-fails g c = search rules
