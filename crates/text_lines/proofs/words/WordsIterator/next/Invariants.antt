-- The words that are left are those of the line, and each turn leaves a shorter text.
use Rattle.std.proofs.Common.{◌≡◌, ◌≤◌, length}
use Rattle.text_lines.specs.Lines.{words_of}
use Rattle.text_lines.proofs.words.WordsIterator.next.Given as goal

abbrev pub invariant-loop-word : goal.invariant-loop-word
invariant-loop-word l = (words_of l.self.0.now ≡ words_of l.initial.self.0.now) × (length l.self.0.now ≤ length l.initial.self.0.now)

abbrev pub decreases-loop-word : goal.decreases-loop-word
decreases-loop-word l = length l.self.0.now
