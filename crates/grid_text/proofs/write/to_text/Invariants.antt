-- The rows so far, before those that are left.
use Rattle.std.proofs.Common.{◌++◌, ℕ, List, drop, string_bytes}
use Rattle.grid_text.proofs.Common.{AnswersCell, MayWriteRows}
use Rattle.grid_text.proofs.write.to_text.Given as goal

abbrev pub invariant-loop-r : goal.invariant-loop-r
invariant-loop-r g l =
    (later : List ℕ) → MayWriteRows (AnswersCell (goal.F-post g) l.write) (drop l.r l.view.rows) later → MayWriteRows (AnswersCell (goal.F-post g) l.write) l.view.rows (string_bytes l.text ++ later)
