use Rattle.std.proofs.Common.{◌≡◌, ◌+◌, ◌-◌, [], length, sym, ◌∙◌, ap, arith}
use Rattle.std.proofs.lemmas.List.{nil_from_length}
use Rattle.grid_rays.proofs.RayLemmas.{length-cells_ahead, first_ahead}
use Rattle.grid_rays.proofs.rays.RayIterIterator.next.Goals as goal

pub returns-then-self-eq0-clause-steps : goal.returns-then-self-eq0-clause-steps
returns-then-self-eq0-clause-steps g c =
    let s = c.self.inside in
    let none : c.args.self.now ≡ [] =
    sym c.self.view_is ∙ nil_from_length _ (length-cells_ahead s.view.rows s.view.table s.step s.at s.left c.self.invariant ∙ c.if-self-eq0.true) in
    (none, none)

pub get_unchecked-requires : goal.get_unchecked-requires
get_unchecked-requires g c =
    let r = c.self.invariant.each 1 (omega arith) (omega arith) in
    (omega (arith, r.above, r.below), omega (arith, r.before, r.after))

pub returns-clause-steps : goal.returns-clause-steps
returns-clause-steps g c =
    let s = c.self.inside in
    let r = c.self.invariant.each 1 (omega arith) (omega arith) in
    sym c.self.view_is
    ∙ first_ahead s.view.rows s.view.table s.step s.at s.left c.self.invariant (s.left - 1) (s.at.0 + s.step.0 - 1, s.at.1 + s.step.1 - 1) (omega arith) (omega (arith, r.above)) (omega (arith, r.before)) c.get_unchecked.result.now c.get_unchecked.ensures

pub returns-clause-goes : goal.returns-clause-goes
returns-clause-goes g c =
    let e = ap length (returns-clause-steps g c) in
    record { on = λ _. (tt, tt, omega (arith, e)); keeps = tt; rests = λ _. tt }
