use Rattle.std.proofs.Common.{◌≡◌, take}
use Rattle.grid.specs.Prelude.{items_of_each, prepended_cols}
use Rattle.test_support.proofs.plain.cols.prepend_cols.Given as goal

abbrev pub invariant-loop-row : goal.invariant-loop-row
invariant-loop-row g l = items_of_each l.padded.items ≡ prepended_cols l.count l.default (items_of_each (take l.row-index l.table.items))
