-- The cells of the characters so far.
use Rattle.std.proofs.Common.{chars, IsUtf8, ◌+◌, ◌≤◌, length}
use Rattle.std.specs.Str.Iter.{chars_rest}
use Rattle.grid_text.proofs.Common.{AnswersChar, bad_char}
use Rattle.grid_text.proofs.Lemmas.{LineSoFar}
use Rattle.grid_text.proofs.read.CharsPieces.read.Given as goal

abbrev pub invariant-loop-found : goal.invariant-loop-found
invariant-loop-found g l = record {
  utf8 : IsUtf8 (chars_rest l.found-iterator);
  fits : l.column + length (chars_rest l.found-iterator) ≤ length l.fn.text;
  cells : LineSoFar bad_char (AnswersChar (goal.F-post g) l.self.0) l.line (chars l.fn.text) (chars (chars_rest l.found-iterator)) l.fn.rows l.rows l.column;
}
