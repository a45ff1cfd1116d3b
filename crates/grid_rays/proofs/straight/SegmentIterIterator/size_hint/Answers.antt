use Rattle.std.proofs.Common.{◌≡◌, ◌+◌, length, sym, ◌∙◌, ap, arith}
use Rattle.std.proofs.lemmas.Grind.{common_steps}
use Rattle.grid_rays.proofs.SegmentLemmas.{length-left}
use Rattle.grid_rays.proofs.straight.SegmentIterIterator.size_hint.Goals as goal

pub returns-clause-lower : goal.returns-clause-lower
returns-clause-lower c =
    let e : length c.args.self.now ≡ c.self.inside.left + 1 = sym (ap length c.self.view_is) ∙ length-left _ _ _ _ _ c.if-self.false in
    λ _. omega (arith, e, c.saturating_add.ensures)

pub returns-clause-upper : goal.returns-clause-upper
returns-clause-upper c =
    let e : length c.args.self.now ≡ c.self.inside.left + 1 = sym (ap length c.self.view_is) ∙ length-left _ _ _ _ _ c.if-self.false in
    grind (arith, common_steps)

pub returns-clause-exact : goal.returns-clause-exact
returns-clause-exact c =
    let e : length c.args.self.now ≡ c.self.inside.left + 1 = sym (ap length c.self.view_is) ∙ length-left _ _ _ _ _ c.if-self.false in
    grind (arith, common_steps)

pub returns-clause-longest : goal.returns-clause-longest
returns-clause-longest c =
    let e : length c.args.self.now ≡ c.self.inside.left + 1 = sym (ap length c.self.view_is) ∙ length-left _ _ _ _ _ c.if-self.false in
    grind (arith, common_steps)
