use Rattle.std.proofs.Common.{arith, ap, sym, ◌∙◌, ◌+◌, ◌*◌}
use Rattle.grid_view.proofs.PlacedLemmas.{placed_last, shorter_back}
use Rattle.grid_view.proofs.cells.ViewIndexedIterDoubleEndedIterator.next_back.Goals as goal

pub returns-clause-steps : goal.returns-clause-steps
returns-clause-steps g c =
    let s = c.self.inside in
    sym c.self.view_is ∙ placed_last _ _ _ _ _ c.self.invariant _ _ _ c.in_ok-cell.ensures.steps (ap (λ k. s.row * s.cols + s.col + k) c.len.ensures.value)

pub returns-clause-goes : goal.returns-clause-goes
returns-clause-goes g c =
    let less = shorter_back _ _ _ (returns-clause-steps g c) in
    record { on = λ _. (tt, tt, omega (arith, less)); keeps = tt; rests = λ _. tt }
