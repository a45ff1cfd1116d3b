use Rattle.grid.proofs.Common.{InRows, PartTaken}
use Rattle.grid.proofs.exchange.exchange_rows.Given as goal

abbrev pub invariant-loop-row : goal.invariant-loop-row
invariant-loop-row g l = PartTaken (InRows l.row l.size.1) l.at l.fn.to l.fn.from l.to l.from
