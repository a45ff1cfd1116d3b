-- The values of the rows so far.
use Rattle.grid_json.proofs.Common.{AnswersCell, MayBeRow}
use Rattle.grid_json.proofs.Lemmas.{ValuesSoFar}
use Rattle.grid_json.proofs.rows.rows_to_value.Given as goal

abbrev pub invariant-loop-row : goal.invariant-loop-row
invariant-loop-row g l = ValuesSoFar (MayBeRow (AnswersCell (goal.F-post g) l.write)) (g.V.AsView.rows l.fn.board) l.row-iterator l.list.items
