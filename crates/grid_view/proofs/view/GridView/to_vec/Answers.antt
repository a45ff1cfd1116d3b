use Rattle.std.proofs.Common.{rules}
use Rattle.grid_view.proofs.view.GridView.to_vec.Goals as goal

pub returns-in-ColumnMajor : goal.returns-in-ColumnMajor
returns-in-ColumnMajor = search rules
