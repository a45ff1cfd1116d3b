use Rattle.grid_view.specs.Same.{AreSame}
use Rattle.grid_view.proofs.same.has_same_rows.Given as goal

abbrev pub invariant-loop-row : goal.invariant-loop-row
invariant-loop-row g l = AreSame g.T.PartialEq.eq l.view.rows l.other.rows (l.fn.rows.0, l.row) l.cols
