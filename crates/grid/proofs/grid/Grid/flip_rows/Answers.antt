use Rattle.std.proofs.Common.{rules}
use Rattle.grid.proofs.grid.Grid.flip_rows.Goals as goal

pub returns-clause-rows : goal.returns-clause-rows
returns-clause-rows g c = search rules

pub returns-clause-same : goal.returns-clause-same
returns-clause-same g c = record { rows = search rules; cols = search rules; order = search rules }
