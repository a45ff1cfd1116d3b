use Rattle.std.proofs.Common.{◌∙◌, ap, arith, length}
use Rattle.grid_view.proofs.LineLemmas.{row_is}
use Rattle.grid_view.proofs.SeenLemmas.{seen_rows}
use Rattle.grid_view.proofs.view.GridView.iter_row.Goals as goal

pub row_start-start-requires-clause-row_in : goal.row_start-start-requires-clause-row_in
row_start-start-requires-clause-row_in g c = omega (arith, seen_rows _ _ _ c.self.inside.fits _ c.self.view_is, c.requires)

pub returns : goal.returns
returns g c =
    let rest = c.over.ensures.0 ∙ row_is _ _ _ c.self.inside.fits _ c.self.view_is c.args.r (omega (arith, seen_rows _ _ _ c.self.inside.fits _ c.self.view_is, c.requires)) _ c.row_start-start.ensures.start in
    record { gives = (rest, c.over.ensures.1, c.over.ensures.2, c.over.ensures.3); len = ap length rest ∙ c.args.self.now.table.even c.args.r c.requires }
