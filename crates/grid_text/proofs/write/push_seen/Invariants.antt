-- The cells so far, before those that are left.
use Rattle.std.proofs.Common.{◌≡◌, ◌++◌, ℕ, List, string_bytes}
use Rattle.grid_text.proofs.Common.{AnswersCell, MayWriteLine}
use Rattle.grid_text.proofs.write.push_seen.Given as goal

abbrev pub invariant-loop-cell : goal.invariant-loop-cell
invariant-loop-cell g l =
    (later : List ℕ) → MayWriteLine (AnswersCell (goal.F-post g) l.write) l.cell-iterator later → (line : List ℕ) × MayWriteLine (AnswersCell (goal.F-post g) l.write) l.fn.row line × (string_bytes l.text ++ later ≡ string_bytes l.fn.text ++ line)
