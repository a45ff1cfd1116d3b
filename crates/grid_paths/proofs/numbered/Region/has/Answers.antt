use Rattle.std.proofs.Common.{◌≡◌, Some, None, true, sym, ◌∙◌, subst}
use Rattle.grid_paths.proofs.Lemmas.{open_alike, alike_open}
use Rattle.grid_base.specs.Table.{cell}
use Rattle.grid_paths.proofs.numbered.Region.has.Goals as goal

pub returns-in-Some-clause-equal : goal.returns-in-Some-clause-equal
returns-in-Some-clause-equal g c =
    let eq = g.T.PartialEq.eq in
    let t = c.args.self.now.grid.now.rows in
    let table = c.args.self.now.grid.now.table in
    let x = c.args.self.now.first.now in
    let at : cell t c.args.at.0 c.args.at.1 ≡ Some c.in-Some.cell.now = sym c.in-Some.ensures.cell in
    let is : c.eq.result ≡ eq c.in-Some.cell.now x = c.eq.ensures in (
      λ h. open_alike eq x t table c.args.at c.in-Some.cell.now at (sym is ∙ h),
      λ h.
          let v = alike_open eq x t table c.args.at h in
          let both : Some c.in-Some.cell.now ≡ Some v.0 = sym at ∙ v.1 in
          let y_is : v.0 ≡ c.in-Some.cell.now = cc in
          is ∙ subst (λ y. eq y x ≡ true) y_is v.2,
    )

pub returns-in-None-clause-equal : goal.returns-in-None-clause-equal
returns-in-None-clause-equal g c =
    let eq = g.T.PartialEq.eq in
    let t = c.args.self.now.grid.now.rows in
    let none : cell t c.args.at.0 c.args.at.1 ≡ None = sym c.in-None.ensures.cell in (
      λ h. absurd (cc),
      λ h.
          let v = alike_open eq c.args.self.now.first.now t c.args.self.now.grid.now.table c.args.at h in
          let clash : None ≡ Some v.0 = sym none ∙ v.1 in
          absurd (cc),
    )
