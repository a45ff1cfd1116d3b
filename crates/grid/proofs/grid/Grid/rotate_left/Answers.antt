use Rattle.std.proofs.Common.{rules}
use Rattle.grid.proofs.grid.Grid.rotate_left.Goals as goal

pub returns-clause-rows : goal.returns-clause-rows
returns-clause-rows g c = search rules

pub returns-clause-row_count : goal.returns-clause-row_count
returns-clause-row_count g c = search rules

pub returns-clause-col_count : goal.returns-clause-col_count
returns-clause-col_count g c = search rules

pub returns-clause-order : goal.returns-clause-order
returns-clause-order g c = search rules
