use Rattle.std.proofs.Common.{◌≡◌, take}
use Rattle.grid.specs.Prelude.{items_of_each, filled}
use Rattle.test_support.proofs.plain.cells.filled.Given as goal

abbrev pub invariant-loop-row : goal.invariant-loop-row
invariant-loop-row g l = items_of_each l.cells.items ≡ filled l.value (items_of_each (take l.row-index l.table.items))
