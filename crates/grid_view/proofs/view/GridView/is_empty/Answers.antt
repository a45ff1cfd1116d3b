use Rattle.grid_view.proofs.SeenLemmas.{seen_rows, empty_by_test}
use Rattle.grid_view.proofs.view.GridView.is_empty.Goals as goal

pub returns : goal.returns
returns g c = rw (← seen_rows _ _ _ c.self.inside.fits _ c.self.view_is) (empty_by_test c.args.self.now.rows)
