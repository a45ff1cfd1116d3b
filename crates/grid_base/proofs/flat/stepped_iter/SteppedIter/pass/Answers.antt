use Rattle.std.proofs.Common.{◌≤◌, ◌∙◌, ap, arith, drop, length, refl}
use Rattle.grid_base.proofs.SteppedLemmas.{length-stepped, stepped_past, stepped_drop}
use Rattle.grid_base.proofs.flat.stepped_iter.SteppedIter.pass.Goals as goal

pub overflow_sub-self : goal.overflow_sub-self
overflow_sub-self g c = omega (arith, c.requires, length-stepped _ _ _ _ c.self.invariant, ap length c.self.view_is)

pub invariant_of-self : goal.invariant_of-self
invariant_of-self g c =
    let s = c.self.inside in
    let le : c.args.n ≤ s.left = omega (arith, c.requires, length-stepped _ _ _ _ c.self.invariant, ap length c.self.view_is) in
    stepped_past _ _ _ _ c.self.invariant c.args.n le _ refl

pub returns : goal.returns
returns g c =
    let s = c.self.inside in
    let le : c.args.n ≤ s.left = omega (arith, c.requires, length-stepped _ _ _ _ c.self.invariant, ap length c.self.view_is) in
    stepped_drop _ _ _ _ c.self.invariant c.args.n le _ refl ∙ ap (drop c.args.n) c.self.view_is
