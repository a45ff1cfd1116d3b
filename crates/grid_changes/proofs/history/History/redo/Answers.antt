use Rattle.std.proofs.Common.{◌+◌, length, refl, ap, ◌∙◌, subst, arith}
use Rattle.grid.proofs.TransposedEditLemmas.{either_way}
use Rattle.grid_changes.specs.Timeline.{IsStepBack, board_of, FirstHasOtherCount}
use Rattle.grid_changes.specs.Steps.{timeline_of}
use Rattle.grid_changes.proofs.StepLemmas.{future_count, fits_on, steps_on, stepped_on_again, on_differs}
use Rattle.grid_changes.proofs.history.History.redo.Goals as goal

pub turn-requires-clause-fits : goal.turn-requires-clause-fits
turn-requires-clause-fits g c =
    let s = c.self.inside in
    fits_on s.grid s.steps.items s.done (omega (arith, c.if-self-len.false, c.len.ensures, c.self.invariant.within)) c.self.invariant

pub invariant_of-self-2 : goal.invariant_of-self-2
invariant_of-self-2 g c =
    let s = c.self.inside in
    steps_on s.done s.grid c.turn.new.grid s.steps.items c.turn.new.steps.items c.in_ok-turn.ensures.turned c.self.invariant

pub returns-clause-found : goal.returns-clause-found
returns-clause-found g c =
    let s = c.self.inside in
    let count = future_count s.grid s.steps.items s.done c.self.invariant ∙ ap (λ v. length v.future) c.self.view_is in
    (λ _. omega (arith, count, c.if-self-len.false, c.len.ensures, c.self.invariant.within), λ _. refl)

pub returns-clause-ahead : goal.returns-clause-ahead
returns-clause-ahead g c =
    let s = c.self.inside in
    subst (λ v. IsStepBack (timeline_of c.turn.new.grid c.turn.new.steps.items (s.done + 1)) v) c.self.view_is
    (stepped_on_again s.done s.grid c.turn.new.grid s.steps.items c.turn.new.steps.items c.in_ok-turn.ensures.turned)

pub returns-in_err-turn-clause-err_memory : goal.returns-in_err-turn-clause-err_memory
returns-in_err-turn-clause-err_memory g c =
    let s = c.self.inside in
    either_way _
    (subst (λ v. FirstHasOtherCount v.future (board_of v.grid)) c.self.view_is
    (on_differs s.grid s.steps.items s.done c.self.invariant c.in_err-turn.ensures.err_lines))
