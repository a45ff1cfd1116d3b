use Rattle.std.proofs.Common.{sym, ◌∙◌}
use Rattle.grid.proofs.Lemmas.{seen_storage}
use Rattle.grid.proofs.grid.Grid.as_slice.Goals as goal

pub returns : goal.returns
returns g c = c.as_slice.ensures ∙ sym (seen_storage _ _ _ _ _ c.self.inside.fits c.self.view_is)
