use Rattle.std.proofs.Common.{◌∙◌, arith}
use Rattle.grid_view.proofs.LineLemmas.{row_is}
use Rattle.grid_view.proofs.SeenLemmas.{seen_rows}
use Rattle.grid_view.proofs.view.GridView.step_row.Goals as goal

pub row_start-start-requires-clause-row_in : goal.row_start-start-requires-clause-row_in
row_start-start-requires-clause-row_in g c = omega (arith, seen_rows _ _ _ c.self.inside.fits _ c.self.view_is, c.requires)

pub returns : goal.returns
returns g c =
    c.over.ensures ∙ row_is _ _ _ c.self.inside.fits _ c.self.view_is c.args.r (omega (arith, seen_rows _ _ _ c.self.inside.fits _ c.self.view_is, c.requires)) _ c.row_start-start.ensures.start
