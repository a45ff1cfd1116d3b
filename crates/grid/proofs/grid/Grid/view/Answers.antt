use Rattle.std.proofs.Common.{◌∙◌, ap}
use Rattle.grid.proofs.grid.Grid.view.Goals as goal

pub over-requires : goal.over-requires
over-requires g c = rw c.as_slice.ensures c.self.inside.fits

pub returns : goal.returns
returns g c = (rw c.as_slice.ensures at c.over.ensures) ∙ ap (λ x. x.rows) c.self.view_is
