-- The cells of the words so far.
use Rattle.grid_text.proofs.Common.{words_of, TriesWord, bad_word}
use Rattle.grid_text.proofs.Lemmas.{LineSoFar}
use Rattle.grid_text.proofs.read.TriedPieces.read.Given as goal

abbrev pub invariant-loop-found : goal.invariant-loop-found
invariant-loop-found g l =
    LineSoFar bad_word (TriesWord (goal.F-post g) l.self.0) l.line (words_of l.fn.text) (words_of l.found-iterator.0.now) l.fn.rows l.rows l.word
