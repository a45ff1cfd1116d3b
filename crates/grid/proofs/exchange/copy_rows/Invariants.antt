use Rattle.grid.proofs.Common.{InRows, PartTaken, held}
use Rattle.grid_base.specs.Table.{col_count}
use Rattle.grid.proofs.exchange.copy_rows.Given as goal

abbrev pub invariant-loop-row : goal.invariant-loop-row
invariant-loop-row g l = PartTaken (InRows l.row (col_count l.view.rows)) l.at l.fn.to (held l.view) l.to (held l.view)
