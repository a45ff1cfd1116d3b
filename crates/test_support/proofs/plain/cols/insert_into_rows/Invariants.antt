use Rattle.std.proofs.Common.{◌≡◌, take}
use Rattle.grid.specs.Prelude.{items_of_each, insert_into_rows}
use Rattle.test_support.proofs.plain.cols.insert_into_rows.Given as goal

abbrev pub invariant-loop-r : goal.invariant-loop-r
invariant-loop-r g l = items_of_each l.grown.items ≡ insert_into_rows l.at (take l.r l.line) (items_of_each l.table.items)
