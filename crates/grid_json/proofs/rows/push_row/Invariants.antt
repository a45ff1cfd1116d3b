-- The cells so far.
use Rattle.grid_json.proofs.Common.{AnswersItem}
use Rattle.grid_json.proofs.Lemmas.{CellsSoFar}
use Rattle.grid_json.proofs.rows.push_row.Given as goal

abbrev pub invariant-loop-col : goal.invariant-loop-col
invariant-loop-col g l = CellsSoFar (AnswersItem (goal.F-post g) l.read) l.value-items l.fn.rows l.rows l.col
