use Rattle.std.proofs.Common.{◌≡◌, ◌<◌, sym, ◌∙◌, ap, arith, to_z, of_z, w64}
use Rattle.std.proofs.lemmas.Grind.{common_steps}
use Rattle.std.proofs.lemmas.Int.{to_z-of_z, ints}
use Rattle.grid_base.specs.Table.{row_count, col_count, cell}
use Rattle.grid_view.specs.Nearest.{nearest_below}
use Rattle.grid_view.proofs.SeenLemmas.{seen_rows, seen_cols}
use Rattle.grid_view.proofs.view.GridView.get_clamped.Goals as goal

pub get_unchecked-requires : goal.get_unchecked-requires
get_unchecked-requires g c =
    let v = c.self.inside in
    let rows = seen_rows _ _ _ v.fits _ c.self.view_is in
    let cols = seen_cols _ _ _ v.fits _ c.self.view_is in
    let some : 0 < row_count c.args.self.now.rows = grind (arith, common_steps) in
    let some_rows : 0 < v.rows.count = omega (arith, rows, some) in
    (omega (arith, rows, c.nearest.ensures.within some_rows), omega (arith, cols, c.nearest-2.ensures.within (v.fits.size.has_cols some_rows)))

pub returns-clause-cell : goal.returns-clause-cell
returns-clause-cell g c =
    let t = c.args.self.now.rows in
    let v = c.self.inside in
    let at_row : to_z w64 (of_z w64 c.args.at.0) ≡ c.args.at.0 = search (arith, ints, to_z-of_z) in
    let at_col : to_z w64 (of_z w64 c.args.at.1) ≡ c.args.at.1 = search (arith, ints, to_z-of_z) in
    let row : c.nearest.result ≡ nearest_below c.args.at.0 (row_count t) =
    c.nearest.ensures.nearest ∙ (ap (λ z. nearest_below z v.rows.count) at_row ∙ ap (nearest_below c.args.at.0) (sym (seen_rows _ _ _ v.fits _ c.self.view_is))) in
    let col : c.nearest-2.result ≡ nearest_below c.args.at.1 (col_count t) =
    c.nearest-2.ensures.nearest ∙ (ap (λ z. nearest_below z v.cols.count) at_col ∙ ap (nearest_below c.args.at.1) (sym (seen_cols _ _ _ v.fits _ c.self.view_is))) in
    sym c.get_unchecked.ensures ∙ (ap (λ r. cell t r c.nearest-2.result) row ∙ ap (cell t (nearest_below c.args.at.0 (row_count t))) col)
