use Rattle.std.proofs.Common.{rules}
use Rattle.grid.proofs.grid.Grid.prepend_rows.Goals as goal

pub returns-clause-padded : goal.returns-clause-padded
returns-clause-padded g c = search rules

pub returns-clause-order : goal.returns-clause-order
returns-clause-order g c = search rules

pub returns-clause-fails : goal.returns-clause-fails
returns-clause-fails g c = search rules
