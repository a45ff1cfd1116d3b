use Rattle.std.proofs.Common.{◌≡◌, ◌<◌, ◌-◌, ◌^◌, suc, length, sym, ◌∙◌, ap, refl, arith, rules, [], Some}
use Rattle.std.proofs.lemmas.List.{nil_from_length}
use Rattle.std.proofs.lemmas.Option.{slice_get_read}
use Rattle.grid_base.proofs.SteppedLemmas.{length-stepped, first_within, stepped_first}
use Rattle.grid_base.proofs.flat.stepped_iter.SteppedIterIterator.next.Goals as goal

pub returns-then-self-eq0-clause-steps : goal.returns-then-self-eq0-clause-steps
returns-then-self-eq0-clause-steps g c =
    let none : c.args.self.now ≡ [] = sym c.self.view_is ∙ nil_from_length _ (length-stepped _ _ _ _ c.self.invariant ∙ c.if-self-eq0.true) in
    (none, none)

pub returns-clause-steps : goal.returns-clause-steps
returns-clause-steps g c =
    let one : c.self.inside.left ≡ suc (c.self.inside.left - 1) = omega arith in
    let fits : c.self.inside.place < 2 ^ 64 = search rules in
    let some : 0 < c.self.inside.left = omega arith in
    let within = first_within _ _ _ _ c.self.invariant fits some in
    let read = slice_get_read c.self.inside.cells.now _ c.self.inside.place _ refl within c.index-self-self.is in
    sym c.self.view_is ∙ (stepped_first _ _ _ _ c.self.invariant _ _ one _ refl fits (read ∙ ap Some c.index-self-self.is))

pub returns-clause-goes : goal.returns-clause-goes
returns-clause-goes g c =
    let e = ap length (returns-clause-steps g c) in
    record { on = λ _. (tt, tt, omega (arith, e)); keeps = tt; rests = λ _. tt }
