use Rattle.std.proofs.Common.{rules}
use Rattle.grid_view.proofs.view.GridView.cols.Goals as goal

pub returns : goal.returns
returns = search rules
