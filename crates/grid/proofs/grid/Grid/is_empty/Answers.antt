use Rattle.grid.proofs.Lemmas.{seen_empty}
use Rattle.grid.proofs.grid.Grid.is_empty.Goals as goal

pub returns : goal.returns
returns g c = seen_empty _ _ _ _ _ c.self.inside.fits c.self.view_is
