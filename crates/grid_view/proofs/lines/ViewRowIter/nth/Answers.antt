use Rattle.std.proofs.Common.{◌-◌, ap, ◌∙◌}
use Rattle.grid_base.proofs.RemainingLemmas.{rows_passed}
use Rattle.grid_base.proofs.StrideLemmas.{nth_row_found}
use Rattle.grid_view.proofs.lines.ViewRowIter.nth.Goals as goal

pub returns : goal.returns
returns g c =
    let s = c.self.inside in
    let left = c.saturating_sub-left.ensures ∙ ap (λ k. k - c.args.n) c.len.ensures.value in
    let passed = rows_passed _ _ _ _ _ _ c.self.invariant c.self.view_is (ap (λ k. s.ahead.end - k) left) in
    let found = nth_row_found c.args.n c.args.self.now _ _ _ passed c.next.ensures.steps in
    record { item = found.0; rest = found.1 }
