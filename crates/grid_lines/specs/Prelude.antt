-- The words of contracts, passed on from one place. Declares nothing.
pub use Rattle.grid_base.specs.Strides.{LinesInOrder}
pub use Rattle.grid_base.specs.Table.{row, row_count, transposed, col_count, InRange}
pub use Rattle.grid_lines.specs.Brought.{brought, taken_back}
pub use Rattle.grid_lines.specs.Copied.{AreCopied, IsRoomFor}
pub use Rattle.grid_lines.specs.LineAnswers.{AnswersAlways, AnswersBy}
pub use Rattle.grid_lines.specs.Rewritten.{AreRewritten, RewritesBy}
pub use Rattle.grid_lines.specs.SortedLines.{ComparesLinesAs, GivesLineKey, AlwaysComparesNumbers, AreSortedLines, AreStableLines, AscendBy, ComparesNumbers, AreSortedByKey, AreStableByKey, AscendByKey}
pub use Rattle.grid_lines.specs.Written.{with_first_cells, WritesLine, WritesNext}
pub use Rattle.std.specs.Cmp.{IsStrictWeakOrder}
pub use Rattle.std.specs.List.{range_with_len, All, AllZip}
pub use Rattle.std.specs.List.Retain.{IsFiltered}
pub use Rattle.std.specs.List.Sorted.{IsStableBy, IsSortedByKey, IsStableByKey}
pub use Rattle.std.specs.Vec.Iter.{into_iter_items}
