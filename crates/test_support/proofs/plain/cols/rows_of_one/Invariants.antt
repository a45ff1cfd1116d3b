use Rattle.std.proofs.Common.{◌≡◌, [], ◌∷◌, map, take}
use Rattle.grid.specs.Prelude.{items_of_each}
use Rattle.test_support.proofs.plain.cols.rows_of_one.Given as goal

abbrev pub invariant-loop-cell : goal.invariant-loop-cell
invariant-loop-cell g l = items_of_each l.rows.items ≡ map (λ x. x ∷ []) (take l.cell-index l.line)
