use Rattle.grid_base.specs.Table.{row}
use Rattle.grid_images.proofs.OrderLemmas.{AreTied}
use Rattle.grid_images.proofs.order.compare_rows.Given as goal

abbrev pub invariant-loop-c : goal.invariant-loop-c
invariant-loop-c g l = AreTied g.T.Ord.cmp l.c (row l.fn.board.rows l.fn.r) (row l.fn.other.rows l.fn.r)
