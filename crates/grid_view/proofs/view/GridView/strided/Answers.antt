use Rattle.std.proofs.Common.{◌<◌, ◌∙◌, sym, ap, arith}
use Rattle.grid_view.proofs.SeenLemmas.{seen_rows, seen_cols}
use Rattle.grid_view.proofs.StridedLemmas.{steps_hold, steps_table, steps_none, last_within}
use Rattle.grid_view.proofs.view.GridView.strided.Goals as goal

pub returns-then-size-eq0-clause-table : goal.returns-then-size-eq0-clause-table
returns-then-size-eq0-clause-table g c = steps_none _ _ _ _ c.args.self.now.rows c.if-size-eq0.true (sym c.size-size.ensures.rows)

pub steps-top-requires-clause-some : goal.steps-top-requires-clause-some
steps-top-requires-clause-some g c = omega (arith, seen_rows _ _ _ c.self.inside.fits _ c.self.view_is, c.size-size.ensures.rows, c.if-size-eq0.false)

pub steps-top-requires-clause-fits : goal.steps-top-requires-clause-fits
steps-top-requires-clause-fits g c =
    omega (arith, (last_within _ _ _ c.self.inside.fits (steps-top-requires-clause-some g c)).1, c.self.told)

pub steps-left-requires-clause-some : goal.steps-left-requires-clause-some
steps-left-requires-clause-some g c =
    let some : 0 < c.self.inside.rows.count = omega (arith, seen_rows _ _ _ c.self.inside.fits _ c.self.view_is, c.size-size.ensures.rows, c.if-size-eq0.false) in
    (last_within _ _ _ c.self.inside.fits some).0

pub returns-clause-holds : goal.returns-clause-holds
returns-clause-holds g c =
    let v = c.self.inside in
    let rows = seen_rows _ _ _ v.fits _ c.self.view_is in
    let cols = seen_cols _ _ _ v.fits _ c.self.view_is in
    steps_hold v.rows v.cols v.cells.now v.fits _ _ _ _ c.steps-top.ensures.steps c.steps-left.ensures.steps c.self.told c.size-size.result (c.size-size.ensures.rows ∙ rows) (c.size-size.ensures.cols ∙ cols)

pub returns-clause-table : goal.returns-clause-table
returns-clause-table g c =
    let v = c.self.inside in
    let rows = seen_rows _ _ _ v.fits _ c.self.view_is in
    let cols = seen_cols _ _ _ v.fits _ c.self.view_is in
    steps_table v.rows v.cols v.cells.now v.fits _ _ _ _ c.steps-top.ensures.steps c.steps-left.ensures.steps c.self.told c.size-size.result (c.size-size.ensures.rows ∙ rows) (c.size-size.ensures.cols ∙ cols) ∙ ap (λ x. x.rows) c.self.view_is
