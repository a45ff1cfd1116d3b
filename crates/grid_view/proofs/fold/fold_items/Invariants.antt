use Rattle.std.proofs.iter.Next as it
use Rattle.std.specs.List.{FoldsTo}
use Rattle.std.specs.Iterator.{EndsFrom, items_left, FoldTurn, CallableInFold}
use Rattle.grid_view.proofs.fold.fold_items.Given as goal

abbrev pub invariant-loop-item : goal.invariant-loop-item
invariant-loop-item g l =
    it.Ran g.I.Iterator.can_next (EndsFrom g.I.Iterator.remaining) (items_left g.I.Iterator.remaining) g.I.Iterator.next_gives (λ xs. FoldsTo {P = g.row.F.Denot × g.row.B.Denot} (FoldTurn g.F.FnMut) (l.initial.f, l.initial.folded) xs (l.f, l.folded)) l.initial.items l.items
    × CallableInFold g.I.Iterator.next_gives g.F.FnMut l.items l.f l.folded

abbrev pub decreases-loop-item : goal.decreases-loop-item
decreases-loop-item g l = items_left g.I.Iterator.remaining l.items
