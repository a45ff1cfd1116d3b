use Rattle.std.proofs.Common.{◌≡◌, ℕ, refl, ◌-◌, ◌<◌, length, subst, sym, arith}
use Rattle.grid.proofs.TransposedEditLemmas.{either_way}
use Rattle.grid_changes.specs.Timeline.{IsBackBy}
use Rattle.grid_changes.proofs.StepLemmas.{not_back, back_again_by}
use Rattle.grid_changes.proofs.history.History.undo_to.Goals as goal

pub loop-taken-init : goal.loop-taken-init
loop-taken-init g c = record { back = not_back c.args.self.now; kept = λ e. refl }

pub loop-taken-preserved : goal.loop-taken-preserved
loop-taken-preserved g c =
    let k = c.loop-taken._taken in
    let lt : k < length c.args.self.now.past - c.args.count = omega (arith, c.loop-taken-test.true, c.saturating_sub-steps.ensures, c.undo_count.ensures) in
    record {
      back = back_again_by k c.args.count c.in_ok-undo.field-0 c.args.self.now c.loop-taken.self c.undo.new.self c.loop-taken.invariant.back lt c.in_ok-undo.ensures.found c.in_ok-undo.ensures.back;
      kept = λ e. absurd (omega (arith, e));
    }

pub returns-in_err-undo-clause-err : goal.returns-in_err-undo-clause-err
returns-in_err-undo-clause-err g c =
    let k = c.loop-taken._taken in
    let lt : k < length c.args.self.now.past - c.args.count = omega (arith, c.loop-taken-test.true, c.saturating_sub-steps.ensures, c.undo_count.ensures) in
    let some : (n : ℕ) × (n < length c.args.self.now.past - c.args.count) × IsBackBy n c.args.self.now c.undo.new.self =
    (k, lt, subst (IsBackBy k c.args.self.now) (sym c.in_err-undo.ensures.err) c.loop-taken.invariant.back) in
    either_way _ some

pub returns-clause-back : goal.returns-clause-back
returns-clause-back g c =
    let all : c.loop-taken._taken ≡ c.saturating_sub-steps.result = omega arith in
    subst (λ n. IsBackBy n c.args.self.now c.loop-taken.self) all c.loop-taken.invariant.back

pub returns-clause-kept : goal.returns-clause-kept
returns-clause-kept g c = λ le. c.loop-taken.invariant.kept (omega (arith, le, c.saturating_sub-steps.ensures, c.undo_count.ensures))
