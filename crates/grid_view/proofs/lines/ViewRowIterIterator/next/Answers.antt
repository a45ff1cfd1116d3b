use Rattle.std.proofs.Common.{sym, refl, ◌∙◌, arith, []}
use Rattle.grid_base.proofs.RemainingLemmas.{remaining_next}
use Rattle.grid_view.proofs.lines.ViewRowIterIterator.next.Goals as goal

pub returns-clause-steps : goal.returns-clause-steps
returns-clause-steps g c =
    let s = c.in_ok-r.ensures.steps in
    sym c.self.view_is
    ∙ remaining_next _ _ _ _ _ _ _ _ [] c.self.invariant refl (omega (arith, s)) (omega (arith, s)) (omega (arith, s)) (omega (arith, s)) c.iter_row.ensures.gives.0
