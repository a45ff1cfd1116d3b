use Rattle.std.proofs.Common.{rules}
use Rattle.grid.proofs.grid.Grid.pop_col.Goals as goal

pub returns-in_default-clause-rows : goal.returns-in_default-clause-rows
returns-in_default-clause-rows = search rules

pub returns-in_default-clause-line : goal.returns-in_default-clause-line
returns-in_default-clause-line = search rules
