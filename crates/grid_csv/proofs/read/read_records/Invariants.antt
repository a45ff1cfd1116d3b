-- The rows of the records so far.
use Rattle.std.proofs.Common.{ℕ, List}
use Rattle.grid_csv.proofs.Common.{HasLeft, AnswersField}
use Rattle.grid_csv.proofs.Lemmas.{RowsSoFar}
use Rattle.grid_csv.proofs.read.read_records.Given as goal

abbrev pub invariant-loop-number : goal.invariant-loop-number
invariant-loop-number g l = (all : List (List (List ℕ))) → HasLeft l.fn.reader all
    → (left : List (List (List ℕ))) × HasLeft l.reader left
    × RowsSoFar (AnswersField (goal.F-post g) l.read) l.fn.first l.fn.rows.cols all left l.rows l.number
