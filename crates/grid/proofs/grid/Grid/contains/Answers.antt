use Rattle.std.proofs.Common.{rules}
use Rattle.grid.proofs.grid.Grid.contains.Goals as goal

pub returns-then-at-rows : goal.returns-then-at-rows
returns-then-at-rows = search rules
