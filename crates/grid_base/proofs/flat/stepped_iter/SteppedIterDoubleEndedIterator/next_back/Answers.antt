use Rattle.std.proofs.Common.{◌≡◌, ◌<◌, ◌+◌, ◌-◌, ◌*◌, ◌^◌, suc, length, sym, ◌∙◌, ap, refl, arith, [], Some, ◌%◌, length-append}
use Rattle.std.proofs.Math.Nat.{add-mod-mod}
use Rattle.std.proofs.lemmas.List.{nil_from_length}
use Rattle.std.proofs.lemmas.Option.{slice_get_read}
use Rattle.grid_base.proofs.SteppedLemmas.{length-stepped, stepped_last}
use Rattle.grid_base.proofs.flat.stepped_iter.SteppedIterDoubleEndedIterator.next_back.Goals as goal

pub returns-then-self-eq0-clause-steps : goal.returns-then-self-eq0-clause-steps
returns-then-self-eq0-clause-steps g c =
    let none : c.args.self.now ≡ [] = sym c.self.view_is ∙ nil_from_length _ (length-stepped _ _ _ _ c.self.invariant ∙ c.if-self-eq0.true) in
    (none, none)

pub returns-clause-steps : goal.returns-clause-steps
returns-clause-steps g c =
    let less = c.self.inside.left - 1 in
    let one : c.self.inside.left ≡ suc less = omega arith in
    let last = (c.self.inside.place + less * c.self.inside.step % 2 ^ 64) % 2 ^ 64 in
    let there : last ≡ (c.self.inside.place + less * c.self.inside.step) % 2 ^ 64 = add-mod-mod c.self.inside.place (less * c.self.inside.step) (2 ^ 64) in
    let within : last < length c.self.inside.cells.now = omega (arith, there, c.self.invariant.within less (omega arith)) in
    let read = slice_get_read c.self.inside.cells.now _ last _ refl within c.index-self-last.is in
    sym c.self.view_is ∙ stepped_last _ _ _ _ c.self.invariant _ _ one last there (read ∙ ap Some c.index-self-last.is)

pub returns-clause-goes : goal.returns-clause-goes
returns-clause-goes g c =
    let e = simp length-append at (ap length (returns-clause-steps g c)) in
    record { on = λ _. (tt, tt, omega (arith, e)); keeps = tt; rests = λ _. tt }
