use Rattle.std.proofs.Common.{◌≡◌, ◌++◌, replicate}
use Rattle.grid.specs.Prelude.{items_of_each}
use Rattle.test_support.proofs.plain.rows.push_blank.Given as goal

abbrev pub invariant-loop : goal.invariant-loop
invariant-loop g l = items_of_each l.table.items ≡ items_of_each l.initial.table.items ++ replicate l.counter (replicate l.width l.default)
