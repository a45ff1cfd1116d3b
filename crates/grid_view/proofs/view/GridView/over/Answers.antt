use Rattle.grid_view.proofs.SeenLemmas.{holds_over, seen_over}
use Rattle.grid_view.proofs.view.GridView.over.Goals as goal

pub invariant_of-result : goal.invariant_of-result
invariant_of-result g c = (holds_over _ _ _ c.requires c.args.order _ c.strides_of-strides.ensures, tt)

pub returns : goal.returns
returns g c = seen_over _ _ _ c.requires c.args.order _ c.strides_of-strides.ensures
