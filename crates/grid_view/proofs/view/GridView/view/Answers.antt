use Rattle.grid_view.proofs.SeenLemmas.{same_view_value}
use Rattle.std.proofs.Common.{ap}
use Rattle.grid_view.proofs.view.GridView.view.Goals as goal

pub invariant_of-result : goal.invariant_of-result
invariant_of-result g c = (c.self.inside.fits, tt)

pub returns : goal.returns
returns g c = same_view_value _ _ (ap (λ x. x.rows) c.self.view_is)
