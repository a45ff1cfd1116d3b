use Rattle.std.proofs.Common.{◌≡◌, ◌+◌, ◌-◌, length, refl, ap, ◌∙◌, subst, arith}
use Rattle.grid.proofs.TransposedEditLemmas.{either_way}
use Rattle.grid_changes.specs.Timeline.{IsStepBack, board_of, FirstHasOtherCount}
use Rattle.grid_changes.specs.Steps.{timeline_of, AreSteps}
use Rattle.grid_changes.proofs.StepLemmas.{past_count, fits_back, steps_back, stepped_back, back_differs}
use Rattle.grid_changes.proofs.history.History.undo.Goals as goal

pub turn-requires-clause-fits : goal.turn-requires-clause-fits
turn-requires-clause-fits g c =
    let s = c.self.inside in
    let e : s.done ≡ s.done - 1 + 1 = omega (arith, c.if-self-eq0.false) in
    fits_back s.grid s.steps.items (s.done - 1) s.done e c.self.invariant

pub invariant_of-self-2 : goal.invariant_of-self-2
invariant_of-self-2 g c =
    let s = c.self.inside in
    let e : s.done ≡ s.done - 1 + 1 = omega (arith, c.if-self-eq0.false) in
    steps_back (s.done - 1) s.grid c.turn.new.grid s.steps.items c.turn.new.steps.items c.in_ok-turn.ensures.turned
    (subst (AreSteps s.grid s.steps.items) e c.self.invariant)

pub returns-clause-found : goal.returns-clause-found
returns-clause-found g c =
    let s = c.self.inside in
    let count = past_count s.grid s.steps.items s.done c.self.invariant ∙ ap (λ v. length v.past) c.self.view_is in
    (λ _. omega (arith, count, c.if-self-eq0.false), λ _. refl)

pub returns-clause-back : goal.returns-clause-back
returns-clause-back g c =
    let s = c.self.inside in
    let e : s.done - 1 + 1 ≡ s.done = omega (arith, c.if-self-eq0.false) in
    subst (λ v. IsStepBack v (timeline_of c.turn.new.grid c.turn.new.steps.items (s.done - 1))) (ap (timeline_of s.grid s.steps.items) e ∙ c.self.view_is)
    (stepped_back (s.done - 1) s.grid c.turn.new.grid s.steps.items c.turn.new.steps.items c.in_ok-turn.ensures.turned)

pub returns-in_err-turn-clause-err_memory : goal.returns-in_err-turn-clause-err_memory
returns-in_err-turn-clause-err_memory g c =
    let s = c.self.inside in
    let e : s.done ≡ s.done - 1 + 1 = omega (arith, c.if-self-eq0.false) in
    either_way _
    (subst (λ v. FirstHasOtherCount v.past (board_of v.grid)) c.self.view_is
    (back_differs s.grid s.steps.items (s.done - 1) s.done e c.self.invariant c.in_err-turn.ensures.err_lines))
