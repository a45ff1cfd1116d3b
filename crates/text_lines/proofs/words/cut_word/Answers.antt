-- A text may be cut before and after a space or a tab.
use Rattle.std.proofs.lemmas.Str.{IsCharBoundary-before_ascii, IsCharBoundary-after_ascii}
use Rattle.text_lines.proofs.words.cut_word.Goals as goal

pub range-requires-clause-end_boundary : goal.range-requires-clause-end_boundary
range-requires-clause-end_boundary c =
    IsCharBoundary-before_ascii _ _ c.in-Some.ensures.ascii.0 c.in-Some.ensures.ascii.1

pub range_from-requires : goal.range_from-requires
range_from-requires c _ =
    IsCharBoundary-after_ascii _ _ c.utf8.text c.in-Some.ensures.ascii.0 c.in-Some.ensures.ascii.1
