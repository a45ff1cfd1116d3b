use Rattle.grid_rays.proofs.AlongLemmas.{IsCounting}
use Rattle.grid_rays.proofs.along.alike_in.Given as goal

abbrev pub invariant-loop-count : goal.invariant-loop-count
invariant-loop-count g l =
    IsCounting g.T.PartialEq.eq l.fn.board.rows l.fn.way l.fn.at l.count (l.row, l.col)
