-- The rows so far.
use Rattle.grid_json.proofs.Common.{AnswersItem}
use Rattle.grid_json.proofs.Lemmas.{RowsSoFar}
use Rattle.grid_json.proofs.rows.read_rows.Given as goal

abbrev pub invariant-loop-row : goal.invariant-loop-row
invariant-loop-row g l = RowsSoFar (AnswersItem (goal.F-post g) l.read) l.item-items l.rows l.row
