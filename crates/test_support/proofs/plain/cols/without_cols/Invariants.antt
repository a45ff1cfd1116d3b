use Rattle.std.proofs.Common.{◌≡◌, ◌++◌, map, filter, take, drop}
use Rattle.grid.specs.Prelude.{items_of_each, has_cells}
use Rattle.test_support.proofs.plain.cols.without_cols.Given as goal

abbrev pub invariant-loop-row : goal.invariant-loop-row
invariant-loop-row g l = items_of_each l.left.items ≡ filter has_cells (map (λ r. take l.start r ++ drop l.end r) (items_of_each (take l.row-index l.table.items)))
