-- What may be read is what the closure says of words.
use Rattle.std.proofs.Common.{sym}
use Rattle.grid_text.proofs.Common.{words_of, lines_of, TriesWord, bad_word}
use Rattle.grid_text.proofs.Lemmas.{is_read}
use Rattle.grid_text.proofs.read.try_from_words.Goals as goal

pub returns-clause-reads : goal.returns-clause-reads
returns-clause-reads g c = λ h by. is_read words_of bad_word (TriesWord (goal.F-post g) c.args.read) h (λ x cell said. rw (sym said.1) (by said.0 cell said.2)) (lines_of c.args.text.now) _ c.read_lines.ensures
