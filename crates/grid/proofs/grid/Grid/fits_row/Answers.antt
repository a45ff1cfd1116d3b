use Rattle.std.proofs.Common.{rules}
use Rattle.grid.proofs.grid.Grid.fits_row.Goals as goal

pub returns-then-is_empty : goal.returns-then-is_empty
returns-then-is_empty g c = search rules

pub returns-else-is_empty : goal.returns-else-is_empty
returns-else-is_empty g c = search rules
