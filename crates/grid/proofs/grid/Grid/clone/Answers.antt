use Rattle.std.proofs.Common.{rules}
use Rattle.grid.proofs.Lemmas.{seen_same}
use Rattle.grid.proofs.grid.Grid.clone.Goals as goal

pub returns : goal.returns
returns g c = seen_same _ _ _ _ _ c.self.inside.fits c.self.view_is _ _ c.in_ok-flat.ensures

pub returns-in_err-flat : goal.returns-in_err-flat
returns-in_err-flat g c = search rules
