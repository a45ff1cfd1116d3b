use Rattle.std.proofs.Common.{◌≡◌, ◌≢◌, Some, sym, ◌∙◌, ap, refl, rules, subst}
use Rattle.grid_paths.proofs.Common.{with_cell, way_of, undone, TakesAll}
use Rattle.grid_paths.proofs.Lemmas.{TakesAll-one, undone-taken}
use Rattle.grid_base.specs.Table.{cell}
use Rattle.grid_paths.specs.declared.taken.Enter.TheVariants.{No}
use Rattle.grid_paths.proofs.taken.TakingVisitCells.visit.Goals as goal

pub returns : goal.returns
returns g c =
    let s = c.args.self.now in
    let t = s.grid.now in
    let k = c.args.cells in
    let at = c.args.at in
    let way = way_of g.T.PartialEq.eq k.on k.stop in
    let x = c.in-Some.cell.now in
    let here : cell t.rows at.0 at.1 ≡ Some x = sym c.in-Some.ensures.cell in
    let enters : way x ≢ No = λ e. c.in_default.not-No (c.way_at.ensures ∙ e) in
    let now = with_cell t.rows at.0 at.1 k.mark in (
      record {
        same_reference = refl;
        same = search rules;
        saves = ap (λ q. undone q now) c.in_ok-push.ensures.items ∙ undone-taken s.taken.items t.rows t.table at k.mark x here;
      },
      subst (λ q. TakesAll way k.mark (λ b. at ≡ b) t.rows s.taken.items now q) (sym c.in_ok-push.ensures.items)
          (TakesAll-one way k.mark c.requires t.rows t.table s.taken.items at x (here, enters)),
    )
