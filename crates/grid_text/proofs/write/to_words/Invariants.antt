-- The rows so far, before those that are left.
use Rattle.std.proofs.Common.{◌≡◌, ◌++◌, string_bytes}
use Rattle.grid_text.proofs.Common.{numbers, numbers_text}
use Rattle.grid_text.proofs.write.to_words.Given as goal

abbrev pub invariant-loop-row : goal.invariant-loop-row
invariant-loop-row g l =
    string_bytes l.text ++ numbers_text (numbers g.T.Whole.whole l.row-iterator) ≡ numbers_text (numbers g.T.Whole.whole (g.V.AsView.rows l.fn.board))
