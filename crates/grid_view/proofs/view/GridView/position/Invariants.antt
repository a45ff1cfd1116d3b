use Rattle.std.proofs.Common.{false}
use Rattle.grid_view.specs.Found.{AnswersAt}
use Rattle.grid_view.proofs.PositionLemmas.{HoldsBefore}
use Rattle.grid_view.proofs.view.GridView.position.Given as goal

abbrev pub invariant-loop-row : goal.invariant-loop-row
invariant-loop-row g l = HoldsBefore l.fn.self.rows (λ at. AnswersAt (goal.F-post g) l.fn.test l.fn.self.rows at false) l.row 0

abbrev pub invariant-loop-col : goal.invariant-loop-col
invariant-loop-col g l = HoldsBefore l.fn.self.rows (λ at. AnswersAt (goal.F-post g) l.fn.test l.fn.self.rows at false) l.row l.col
