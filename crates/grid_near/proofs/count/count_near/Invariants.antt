use Rattle.grid_near.proofs.Lemmas.{Counting}
use Rattle.grid_near.proofs.count.count_near.Given as goal

abbrev pub invariant-loop-cell : goal.invariant-loop-cell
invariant-loop-cell g l =
    (goal.iterator-loop-cell g).can_next l.cell-iterator
    × (goal.iterator-loop-cell g).is_finite l.cell-iterator
    × Counting (goal.F-pre g) (goal.F-post g) l.test l.fn.near l.cell-iterator l.count
