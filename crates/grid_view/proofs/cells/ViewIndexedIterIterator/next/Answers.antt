use Rattle.std.proofs.Common.{arith, ap, length, sym, ◌∙◌}
use Rattle.grid_view.proofs.PlacedLemmas.{placed_next}
use Rattle.grid_view.proofs.cells.ViewIndexedIterIterator.next.Goals as goal

pub returns-clause-steps : goal.returns-clause-steps
returns-clause-steps g c =
    sym c.self.view_is ∙ placed_next _ _ _ _ _ c.self.invariant _ _ _ _ c.in_ok-cell.ensures.steps c.place_after-row.ensures.after

pub returns-clause-goes : goal.returns-clause-goes
returns-clause-goes g c =
    let e = ap length (returns-clause-steps g c) in
    record { on = λ _. (tt, tt, omega (arith, e)); keeps = tt; rests = λ _. tt }
