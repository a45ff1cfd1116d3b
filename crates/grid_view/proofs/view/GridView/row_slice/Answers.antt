use Rattle.std.proofs.Common.{sym, ◌∙◌, arith, rules}
use Rattle.grid_view.proofs.LineLemmas.{side_by_side}
use Rattle.grid_view.proofs.SeenLemmas.{seen_rows, seen_cols}
use Rattle.grid_view.proofs.view.GridView.row_slice.Goals as goal

pub row_start-start-requires-clause-row_in : goal.row_start-start-requires-clause-row_in
row_start-start-requires-clause-row_in g c = omega (arith, seen_rows _ _ _ c.self.inside.fits _ c.self.view_is, c.requires)

pub returns-then-not-steps_by-clause-narrow : goal.returns-then-not-steps_by-clause-narrow
returns-then-not-steps_by-clause-narrow g c = λ narrow.
    let alone = c.steps_by.ensures.alone (omega (arith, seen_cols _ _ _ c.self.inside.fits _ c.self.view_is, narrow)) in
    sym c.if-not-steps_by.true ∙ alone

pub returns-clause-cells : goal.returns-clause-cells
returns-clause-cells g c =
    side_by_side _ _ _ c.self.inside.fits _ c.self.view_is c.args.r (omega (arith, seen_rows _ _ _ c.self.inside.fits _ c.self.view_is, c.requires)) _ c.row_start-start.ensures.start
    (c.steps_by.ensures.steps (search rules))
