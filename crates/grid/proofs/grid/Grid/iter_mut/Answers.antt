use Rattle.std.proofs.Common.{◌∙◌, sym, refl}
use Rattle.grid.proofs.Lemmas.{seen_storage, seen_refilled, seen_keeps}
use Rattle.grid.proofs.grid.Grid.iter_mut.Goals as goal

pub returns : goal.returns
returns g c = (
  (refl, λ w. seen_refilled _ _ _ _ _ c.self.inside.fits c.self.view_is w _),
  record { writes_back = tt; keeps = seen_keeps _ _ _ _ _ c.self.inside.fits c.self.view_is; gives = (c.iter_mut.ensures.rest ∙ sym (seen_storage _ _ _ _ _ c.self.inside.fits c.self.view_is), c.iter_mut.ensures.runs, c.iter_mut.ensures.runs_back) },
)
