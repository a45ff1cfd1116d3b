use Rattle.std.proofs.Common.{rules}
use Rattle.grid_text.proofs.Common.{words_of, lines_of, bad_word}
use Rattle.grid_text.proofs.Lemmas.{fewer_read}
use Rattle.grid_text.proofs.read.from_words.Goals as goal

pub returns-clause-answers : goal.returns-clause-answers
returns-clause-answers g c = fewer_read words_of bad_word _ _ (lines_of c.args.text.now) c.try_from_words.result c.try_from_words.ensures.answers (λ x cell said. search rules)
