use Rattle.std.proofs.Common.{◌≡◌, ◌≤◌, ◌-◌, drop, take, sym, ap, ◌∙◌, subst, arith}
use Rattle.grid_changes.specs.Steps.{AreSteps, timeline_of}
use Rattle.grid_changes.proofs.StepLemmas.{steps_kept, past_kept, past_count, kept_most}
use Rattle.grid_changes.proofs.history.History.keep.Goals as goal

pub invariant_of-self : goal.invariant_of-self
invariant_of-self g c =
    let s = c.self.inside in
    let k = c.saturating_sub-dropped.result in
    let left : c.drop-drain.new.self.0.items ≡ drop k s.steps.items = c.drop-drain.ensures.items ∙ c.drain.ensures.kept in
    let le : k ≤ s.done = omega (arith, c.saturating_sub-dropped.ensures) in
    subst (λ v. AreSteps s.grid v (s.done - k)) (sym left) (steps_kept s.grid s.steps.items s.done k c.self.invariant le)

pub returns-clause-past : goal.returns-clause-past
returns-clause-past g c =
    let s = c.self.inside in
    let k = c.saturating_sub-dropped.result in
    let left : c.drop-drain.new.self.0.items ≡ drop k s.steps.items = c.drop-drain.ensures.items ∙ c.drain.ensures.kept in
    let le : k ≤ s.done = omega (arith, c.saturating_sub-dropped.ensures) in
    ap (λ v. (timeline_of s.grid v (s.done - k)).past) left
    ∙ (past_kept s.grid s.steps.items s.done k c.self.invariant le
    ∙ (kept_most s.done c.args.count k (timeline_of s.grid s.steps.items s.done).past (past_count s.grid s.steps.items s.done c.self.invariant) c.saturating_sub-dropped.ensures
    ∙ ap (λ v. take c.args.count v.past) c.self.view_is))
