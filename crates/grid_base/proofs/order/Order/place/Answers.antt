use Rattle.std.proofs.Common.{rules}
use Rattle.grid_base.proofs.order.Order.place.Goals as goal

pub returns-in-ColumnMajor : goal.returns-in-ColumnMajor
returns-in-ColumnMajor = search rules
