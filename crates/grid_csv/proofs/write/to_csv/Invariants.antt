-- The records so far, of the rows before those that are left.
use Rattle.std.proofs.Common.{ℕ, List}
use Rattle.std.specs.List.{AllZip}
use Rattle.grid_csv.proofs.Common.{HasWritten, AnswersCell, sheet_text}
use Rattle.grid_csv.proofs.Lemmas.{ZipSoFar}
use Rattle.grid_csv.proofs.write.to_csv.Given as goal

abbrev pub invariant-loop-row : goal.invariant-loop-row
invariant-loop-row g l = (records : List (List (List ℕ))) × ZipSoFar (AllZip (AnswersCell (goal.F-post g) l.write)) (g.V.AsView.rows l.fn.board) l.row-iterator records × HasWritten l.writer (sheet_text records)
