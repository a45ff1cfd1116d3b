-- A text may be cut before and after a line feed.
use Rattle.std.proofs.lemmas.Str.{IsCharBoundary-before_ascii, IsCharBoundary-after_ascii}
use Rattle.text_lines.proofs.lines.cut_line.Goals as goal

pub range-requires-clause-end_boundary : goal.range-requires-clause-end_boundary
range-requires-clause-end_boundary c =
    let ascii = rw c.as_bytes.ensures.value at c.in-Some.ensures.ascii in
    IsCharBoundary-before_ascii _ _ ascii.0 ascii.1

pub range_from-requires : goal.range_from-requires
range_from-requires c _ =
    let ascii = rw c.as_bytes.ensures.value at c.in-Some.ensures.ascii in
    IsCharBoundary-after_ascii _ _ c.utf8.text ascii.0 ascii.1
