use Rattle.grid_base.proofs.StrideLemmas.{lines_in_order, lines_in_reverse}
use Rattle.grid_view.proofs.CellLemmas.{cells_start, cells_fit, cells_all}
use Rattle.grid_view.proofs.view.GridView.iter.Goals as goal

pub invariant_of-result : goal.invariant_of-result
invariant_of-result g c = cells_start _ _ _ c.self.inside.fits _ c.self.view_is _ _ _ c.none.ensures c.iter_rows.ensures.gives.0 c.none-2.ensures

pub returns : goal.returns
returns g c = record {
  gives = (
    cells_all _ _ _ c.self.inside.fits _ c.self.view_is _ _ _ c.none.ensures c.iter_rows.ensures.gives.0 c.none-2.ensures,
    lines_in_order _,
    lines_in_reverse _,
    cells_fit _ _ _ c.self.inside.fits _ c.self.view_is _ _ _ c.none.ensures c.iter_rows.ensures.gives.0 c.none-2.ensures,
  );
}
