-- What is before the first separator is the first word, unless it is empty.
use Rattle.std.proofs.Common.{◌<◌, ◌∙◌, length, sym, arith, rules}
use Rattle.text_lines.proofs.WordLemmas.{word_first, rest_is_shorter}
use Rattle.text_lines.proofs.words.WordsIterator.next.Goals as goal

pub returns-then-not-is_empty-clause-steps : goal.returns-then-not-is_empty-clause-steps
returns-then-not-is_empty-clause-steps c =
    let some : 0 < length c.cut_word.result.0.now = search rules in
    sym c.loop-word.invariant.0 ∙ word_first c.loop-word.self.0.now _ _ c.cut_word.ensures.word c.cut_word.ensures.rest some

pub returns-then-not-is_empty-clause-goes : goal.returns-then-not-is_empty-clause-goes
returns-then-not-is_empty-clause-goes c =
    let some : 0 < length c.loop-word.self.0.now = search rules in
    let shorter = rest_is_shorter c.loop-word.self.0.now some in
    let rest : length c.cut_word.result.1.now < length c.args.self.now.0.now = rw c.cut_word.ensures.rest (omega (arith, shorter, c.loop-word.invariant.1)) in
    search rules
