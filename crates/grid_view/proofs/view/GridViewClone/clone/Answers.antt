use Rattle.std.proofs.Common.{rules}
use Rattle.grid_view.proofs.view.GridViewClone.clone.Goals as goal

pub returns : goal.returns
returns = search rules
