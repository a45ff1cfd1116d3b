-- The values of the cells so far.
use Rattle.grid_json.proofs.Common.{AnswersCell}
use Rattle.grid_json.proofs.Lemmas.{ValuesSoFar}
use Rattle.grid_json.proofs.rows.row_to_value.Given as goal

abbrev pub invariant-loop-cell : goal.invariant-loop-cell
invariant-loop-cell g l = ValuesSoFar (AnswersCell (goal.F-post g) l.write) l.fn.row l.cell-iterator l.list.items
