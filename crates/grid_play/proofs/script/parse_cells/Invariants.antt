-- The cells so far, before those of the words that are left.
use Rattle.std.proofs.Common.{◌≡◌, ◌++◌, option_map}
use Rattle.text_lines.specs.Lines.{words_of}
use Rattle.grid_play.specs.Commands.{cells_of}
use Rattle.grid_play.proofs.script.parse_cells.Given as goal

abbrev pub invariant-loop-word : goal.invariant-loop-word
invariant-loop-word g l =
    cells_of (words_of l.fn.words.0.now) ≡ option_map (λ rest. l.cells.items ++ rest) (cells_of (words_of l.word-iterator.0.now))
