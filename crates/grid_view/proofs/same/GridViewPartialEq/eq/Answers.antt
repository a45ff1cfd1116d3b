use Rattle.std.proofs.Common.{rules}
use Rattle.grid_view.proofs.same.GridViewPartialEq.eq.Goals as goal

pub returns : goal.returns
returns = search rules
