use Rattle.std.proofs.Common.{rules}
use Rattle.grid_view.proofs.view.GridView.copy_row.Goals as goal

pub returns-in-None : goal.returns-in-None
returns-in-None = search rules
