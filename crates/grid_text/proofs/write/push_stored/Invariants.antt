-- The cells so far, before those that are left.
use Rattle.std.proofs.Common.{◌≡◌, ◌++◌, ℕ, List, drop, string_bytes}
use Rattle.grid_text.proofs.Common.{AnswersCell, MayWriteLine}
use Rattle.grid_text.proofs.write.push_stored.Given as goal

abbrev pub invariant-loop-cell : goal.invariant-loop-cell
invariant-loop-cell g l =
    (later : List ℕ) → MayWriteLine (AnswersCell (goal.F-post g) l.write) (drop l.cell-index l.cells) later → (line : List ℕ) × MayWriteLine (AnswersCell (goal.F-post g) l.write) l.cells line × (string_bytes l.text ++ later ≡ string_bytes l.fn.text ++ line)
