use Rattle.std.proofs.Common.{rules}
use Rattle.grid.proofs.grid.Grid.expand_cols.Goals as goal

pub returns-clause-padded : goal.returns-clause-padded
returns-clause-padded = search rules
