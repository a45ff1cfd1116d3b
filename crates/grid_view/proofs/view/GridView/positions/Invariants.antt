use Rattle.grid_view.proofs.PositionLemmas.{FoundBefore}
use Rattle.grid_view.proofs.view.GridView.positions.Given as goal

abbrev pub invariant-loop-row : goal.invariant-loop-row
invariant-loop-row g l = FoundBefore (goal.F-post g) l.fn.test l.fn.self.rows l.found.items l.row 0

abbrev pub invariant-loop-col : goal.invariant-loop-col
invariant-loop-col g l = FoundBefore (goal.F-post g) l.fn.test l.fn.self.rows l.found.items l.row l.col
