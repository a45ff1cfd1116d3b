use Rattle.std.proofs.Common.{rules}
use Rattle.grid.proofs.grid.Grid.delete_row.Goals as goal

pub returns-clause-found : goal.returns-clause-found
returns-clause-found g c = search rules

pub returns-clause-rows : goal.returns-clause-rows
returns-clause-rows g c = search rules

pub returns-clause-order : goal.returns-clause-order
returns-clause-order g c = search rules
