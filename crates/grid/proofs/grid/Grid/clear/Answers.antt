use Rattle.std.proofs.Common.{rules}
use Rattle.grid.proofs.Common.{table_of-none}
use Rattle.grid.proofs.grid.Grid.clear.Goals as goal

pub returns-clause-rows : goal.returns-clause-rows
returns-clause-rows g c = table_of-none _ _

pub returns-clause-order : goal.returns-clause-order
returns-clause-order g c = search rules

pub invariant_of-self-inside : goal.invariant_of-self-inside
invariant_of-self-inside = search rules
