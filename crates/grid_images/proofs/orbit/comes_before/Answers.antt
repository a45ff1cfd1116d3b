use Rattle.std.proofs.Common.{◌≡◌, Contains, get_or, length, refl, sym, ◌∙◌, ap, subst, arith, below_more}
use Rattle.std.proofs.lemmas.Bool.{false≢true}
use Rattle.std.proofs.lemmas.List.{get_or_default}
use Rattle.std.proofs.lemmas.List.Elements.{Contains-get_or}
use Rattle.grid_base.proofs.Lemmas.{product}
use Rattle.grid_base.specs.Symmetry.{IsInverse}
use Rattle.grid_base.specs.declared.words.Symmetry.{Symmetry}
use Rattle.grid_base.specs.declared.words.Symmetry.TheVariants.{Identity}
use Rattle.grid_images.specs.Images.{DiffersBy, number, symmetry_at}
use Rattle.grid_images.proofs.NumberLemmas.{at-number, number-at, number-where, undoing}
use Rattle.grid_images.proofs.OrbitLemmas.{differs_member, member_differs, undone_then}
use Rattle.grid_images.proofs.orbit.comes_before.Goals as goal

pub returns-then-stands_in_all-i : goal.returns-then-stands_in_all-i
returns-then-stands_in_all-i c =
    let ss = c.args.fixing.now in
    let s = symmetry_at c.args.i in
    let u = c.then.result in
    let k = c.loop-member.member-index in
    let f : Symmetry = get_or ss k Identity in
    let undoes = subst (λ xs. IsInverse (get_or xs k Identity) c.inverse.result) c.as_slice-member-items.ensures.members c.inverse.ensures in
    let member : Contains ss f = Contains-get_or ss k Identity (omega (arith, c.loop-member-test.true, ap length c.as_slice-member-items.ensures.members)) in (
      λ e. (
        number u,
        omega (arith, c.if-stands_in_all-i.true, number-where c.stands_in_all.result u c.stands_in_all.ensures),
        subst (DiffersBy ss s) (sym (at-number u)) (member_differs ss f s c.inverse.result u member undoes c.then.ensures),
      ),
      λ h. refl,
    )

pub loop-member-preserved : goal.loop-member-preserved
loop-member-preserved c =
    let k = c.loop-member.member-index in
    let undoes = subst (λ xs. IsInverse (get_or xs k Identity) c.inverse.result) c.as_slice-member-items.ensures.members c.inverse.ensures in
    below_more _ _ c.loop-member.invariant (λ less.
    let is = undone_then (get_or c.args.fixing.now k Identity) (symmetry_at c.args.i) c.inverse.result c.then.result undoes c.then.ensures in
    omega (arith, less, ap number is, c.if-stands_in_all-i.false, number-where c.stands_in_all.result c.then.result c.stands_in_all.ensures))

pub returns : goal.returns
returns c =
    let ss = c.args.fixing.now in
    let s = symmetry_at c.args.i in (
      λ e. absurd (false≢true e),
      λ h.
          let m = differs_member ss s (symmetry_at h.0) h.2 in
          let j = m.1.0 in
          let there : get_or ss j Identity ≡ m.0 = get_or_default ss j Identity m.0 m.1.1 ∙ m.1.2 in
          let is = ap (λ f. number (product (undoing f) s)) there ∙ (ap number m.2 ∙ number-at h.0 (omega (arith, h.1, c.requires))) in
          absurd (c.loop-member.invariant j (omega (arith, m.1.1, c.loop-member-test.false, ap length c.as_slice-member-items.ensures.members)) (omega (arith, is, h.1))),
    )
