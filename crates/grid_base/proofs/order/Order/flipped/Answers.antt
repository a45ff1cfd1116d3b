use Rattle.std.proofs.Common.{rules}
use Rattle.grid_base.proofs.order.Order.flipped.Goals as goal

pub returns-in-RowMajor : goal.returns-in-RowMajor
returns-in-RowMajor = search rules
