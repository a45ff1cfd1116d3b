use Rattle.std.proofs.Common.{sym}
use Rattle.grid_rays.proofs.along.first_along.Goals as goal

pub returns : goal.returns
returns g c = rw (sym c.as_view.ensures) c.first_in.ensures
