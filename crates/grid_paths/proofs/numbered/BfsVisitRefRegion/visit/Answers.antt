use Rattle.std.proofs.Common.{◌≡◌, Some, None, refl, sym, subst, ◌∙◌, ap}
use Rattle.grid_paths.proofs.Common.{IsOpen, IsMarked}
use Rattle.grid_paths.proofs.Lemmas.{Spreads-mark, Spreads-stay}
use Rattle.grid_base.specs.Table.{cell}
use Rattle.grid_paths.specs.Bfs.{mask_of}
use Rattle.grid_paths.proofs.numbered.BfsVisitRefRegion.visit.Goals as goal

pub returns-in_ok-mark : goal.returns-in_ok-mark
returns-in_ok-mark g c =
    let bfs = c.args.self.now in
    let at = c.args.at in
    let is_free : cell bfs.numbers.rows at.0 at.1 ≡ Some None = c.index.ensures ∙ ap Some c.in-None.is in
    Spreads-mark is_free c.in_ok-mark.ensures (mask_of g.T.PartialEq.eq c.args.region.now) (c.if-has.ensures.equal.0 refl)

pub returns-in_default : goal.returns-in_default
returns-in_default g c =
    let u = c.args.self.now.numbers.rows in
    let m = c.in_default.field-0 in
    let mark : IsMarked u c.args.at m = c.index.ensures ∙ ap Some c.in_default.is in
    Spreads-stay (λ b. c.args.at ≡ b) c.args.self.now (λ b e o. (m, subst (λ x. IsMarked u x m) e mark))

pub returns-else-has : goal.returns-else-has
returns-else-has g c =
    let at = c.args.at in
    let mask = mask_of g.T.PartialEq.eq c.args.region.now in
    Spreads-stay (λ b. at ≡ b) c.args.self.now
    (λ b e o. let is = c.if-has.ensures.equal.1 (subst (λ x. IsOpen mask x) (sym e) o) in absurd (cc))
