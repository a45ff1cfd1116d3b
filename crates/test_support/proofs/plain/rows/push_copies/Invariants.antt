use Rattle.std.proofs.Common.{◌≡◌, ◌++◌, take}
use Rattle.grid.specs.Prelude.{items_of_each}
use Rattle.test_support.proofs.plain.rows.push_copies.Given as goal

abbrev pub invariant-loop-row : goal.invariant-loop-row
invariant-loop-row g l = items_of_each l.table.items ≡ items_of_each l.initial.table.items ++ items_of_each (take l.row-index l.rows)
