use Rattle.grid_view.proofs.PlacedLemmas.{placed_first, placed_all, placed_fits, gives_cells}
use Rattle.grid_view.proofs.view.GridView.indexed_iter.Goals as goal

pub invariant_of-result : goal.invariant_of-result
invariant_of-result g c =
    placed_first c.args.self.now.rows c.args.self.now.table _ _ _ c.size-rows.ensures.rows c.size-rows.ensures.cols c.args.self.now.fits.cells c.iter.ensures.gives.0

pub returns : goal.returns
returns g c =
    let t = c.args.self.now in
    let all = placed_all t.rows t.table _ _ _ c.size-rows.ensures.rows c.size-rows.ensures.cols c.iter.ensures.gives.0 in
    record {
      gives = (
        all,
        gives_cells t.rows t.table _ all,
        placed_fits t.rows t.table _ all t.fits.cells,
      );
    }
