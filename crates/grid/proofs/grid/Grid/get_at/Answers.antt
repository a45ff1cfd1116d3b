use Rattle.std.proofs.Common.{rules}
use Rattle.grid.proofs.grid.Grid.get_at.Goals as goal

pub returns-clause-cell : goal.returns-clause-cell
returns-clause-cell = search rules

pub returns-clause-in_range : goal.returns-clause-in_range
returns-clause-in_range = search rules
