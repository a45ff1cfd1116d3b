use Rattle.std.proofs.Common.{sym, refl, ◌∙◌, arith, []}
use Rattle.grid_base.proofs.RemainingLemmas.{remaining_next_back}
use Rattle.grid_view.proofs.lines.ViewRowIter.next_back_stepped.Goals as goal

pub returns : goal.returns
returns g c =
    let s = c.in_ok-number.ensures.steps in
    sym c.self.view_is
    ∙ remaining_next_back _ _ _ _ _ _ _ _ [] c.self.invariant refl (omega (arith, s)) (omega (arith, s)) (omega (arith, s)) (omega (arith, s)) c.step_row.ensures
