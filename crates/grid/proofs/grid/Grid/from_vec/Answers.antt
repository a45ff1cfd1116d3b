use Rattle.std.proofs.Common.{rules}
use Rattle.grid.proofs.grid.Grid.from_vec.Goals as goal

pub returns-clause-order : goal.returns-clause-order
returns-clause-order g c = search rules

pub returns-clause-storage : goal.returns-clause-storage
returns-clause-storage g c = search rules

pub returns-clause-cols : goal.returns-clause-cols
returns-clause-cols g c = search rules
