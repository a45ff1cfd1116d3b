use Rattle.std.proofs.Common.{◌∙◌, refl}
use Rattle.grid.proofs.Lemmas.{seen_indexed, seen_refilled, seen_keeps, gives_mut_cells, indexed_fits}
use Rattle.grid.proofs.grid.Grid.indexed_iter_mut.Goals as goal

pub returns : goal.returns
returns g c = (
  (refl, λ w. seen_refilled _ _ _ _ _ c.self.inside.fits c.self.view_is w _),
  record { writes_back = tt; keeps = seen_keeps _ _ _ _ _ c.self.inside.fits c.self.view_is; gives = (c.indexed_iter_mut.ensures.rest ∙ seen_indexed _ _ _ _ _ c.self.inside.fits c.self.view_is, gives_mut_cells _ _ _ _ _ c.self.inside.fits c.self.view_is _ c.indexed_iter_mut.ensures.rest, indexed_fits _ _ _ _ _ c.self.inside.fits c.self.view_is _ c.indexed_iter_mut.ensures.rest) },
)
