-- The words of contracts, passed on from one place. Declares nothing.
pub use Rattle.grid.specs.AllCells.{filled, CallableAtPositions, MappedBy, ReachesThere, ReturnsThere}
pub use Rattle.grid.specs.Conversion.{equal_rows, AreClones, AreClonedRows, RowsFault, RowsAnswer, CutAnswer, AreEven, CanJoin}
pub use Rattle.grid.specs.Copies.{IsGridClone}
pub use Rattle.grid.specs.Cost.{command_symmetry, axis_order, edit_shift, step_shift, list_symmetry, price_at, shift_at}
pub use Rattle.grid.specs.EditFails.{LineFails, LinesFail, PaddingFails}
pub use Rattle.grid.specs.Edited.{Edited, EditCounted}
pub use Rattle.grid.specs.Edits.{FitsRow, FitsCol, insert_cols, without_rows, without_cols, insert_col, insert_rows, PadsRows, PadsCols, expanded_rows, prepended_rows, insert_into_rows, expanded_cols, prepended_cols, has_cells}
pub use Rattle.grid.specs.Exchanged.{held, InRow, InRows, PartTaken, RowTaken}
pub use Rattle.grid.specs.GridFails.{GridFails}
pub use Rattle.grid.specs.Make.{FailsAt, ExceedsMax, FailsBySize, IsMade, EachCellIs, HoldsDefaults, CallableOver, MadeBy, HasSize, IsOnlyDefault}
pub use Rattle.grid.specs.NearMaps.{CallableAround, ReturnsAround, ReachesAround, MapAround, CallableCounted, MapCounts, CallableSummed, MapSums}
pub use Rattle.grid.specs.Parts.{cols_swapped}
pub use Rattle.grid.specs.Passes.{LinesReversed, EachLineReversed}
pub use Rattle.grid.specs.Pasted.{overlaid, part_filled, IsWithin, CallableInPart, CallableInRow, PartUpdated, CellsUpdated, IsClipped}
pub use Rattle.grid.specs.Positions.{IsOffset, GivesIndices}
pub use Rattle.grid.specs.Resize.{IsCorner, IsResized, ResizesTo}
pub use Rattle.grid.specs.RowGroups.{RowGroups, cols_if_rows}
pub use Rattle.grid.specs.Run.{RunGives, run_rows, run_replies, Ran, MayStop, AreKnown, AreDue}
pub use Rattle.grid.specs.Same.{same_cells, same_cells_per, same_cells_equiv, table_feed, table_feed_respects}
pub use Rattle.grid.specs.Shift.{rows_added_shift, rows_taken_shift, delete_rows_shift}
pub use Rattle.grid.specs.Slots.{by_order, are_full, AreTaken, HoldCells}
unfoldable pub use Rattle.grid.specs.Step.{step_rows, step_reply}
pub use Rattle.grid.specs.Step.{takes_memory, Effect, nothing, inserts, removes, range_effect, effect, after_effect, edit_takes_memory, has_lines, edit_reply, line_at, pads_end, pads_front, RowsAreKnown, EditIsKnown, ReplyIsKnown, EditReplyIsKnown, rows_after, reply_to}
pub use Rattle.grid.specs.Stepped.{Stepped, StepCounted}
pub use Rattle.grid_base.specs.Blocks.{BlocksExchanged, PartReversed, BlocksSwapped, BlockTaken}
pub use Rattle.grid_base.specs.Clones.{ClonesAreEqual}
pub use Rattle.grid_base.specs.ClosureCalls.{MapsThrough, MapsTo, PairsUp, CallableAtEach, CallableAtItems, CallableAtRefs, ReturnsAtCell, CallableTimes, Generates, FailsFirst}
pub use Rattle.grid_base.specs.Flags.{flags_of, from_flags}
pub use Rattle.grid_base.specs.Gather.{items_of_each}
pub use Rattle.grid_base.specs.GridLineIterMut.{line_mut_rest, line_mut_name}
pub use Rattle.grid_base.specs.GridValue.{HoldsSize, GridValue, FitsUsize, SameSizeAndOrder}
pub use Rattle.grid_base.specs.Groups.{Woven, Widened, Opened, TakenOut, Closed}
pub use Rattle.grid_base.specs.IndexedIterators.{GivesCells, GivesOwnedCells, GivesMutCells, IsCellAt}
pub use Rattle.grid_base.specs.Iterators.{GivesLine, GivesIndexed, GivesLines, GivesRefs, GivesMutRefs, GivesOwned, GivesMutIndexed, GivesOwnedIndexed}
pub use Rattle.grid_base.specs.Layout.{positions_of, lines_of}
pub use Rattle.grid_base.specs.Move.{word_image, IsImageByWords}
pub use Rattle.grid_base.specs.Order.{storage, flipped, place, table_of, CanCut}
unfoldable pub use Rattle.grid_base.specs.Positions.{positions}
pub use Rattle.grid_base.specs.Positions.{StandsAt, along}
unfoldable pub use Rattle.grid_base.specs.Symmetry.{act, symmetry_of}
pub use Rattle.grid_base.specs.Symmetry.{source_row, source_col, image_rows, image_cols, transposes, order_after, IsThen, IsInverse, half, price, HasImageSize}
unfoldable pub use Rattle.grid_base.specs.Table.{tabulate, cells_by}
pub use Rattle.grid_base.specs.Table.{row_count, col_count, cell, IsTable, IsSize, transposed, row, concat_rows, InRange, with_cell, with_cell_of, exchanged}
pub use Rattle.grid_base.specs.Tally.{saturating_count, Counts}
pub use Rattle.grid_commands.specs.Command.{insert_at, insert_all, command_value, get, fill, apply, axis_of, Edit, read, push, pop, remove_at, delete_at, delete_range, expand, prepend, CommandValue, size, set_cell, swap_cells, lines, clear, line_count, line_width}
pub use Rattle.grid_commands.specs.Errors.{as_shape_error, fault_text}
pub use Rattle.grid_commands.specs.LineEdit.{pad_edit, request_value, edit_value}
pub use Rattle.grid_commands.specs.Refusal.{in_range, lines_refusal, pad_refusal, edit_refusal, fitting_width, first_width, command_refusal, unless_refused, exceeds}
pub use Rattle.grid_commands.specs.Reply.{reply_value, ReplyValue, done, size_is, cell_is, line_is, flag_is, refused}
pub use Rattle.grid_near.specs.Around.{strided_cell, box, IsThere, around, side}
pub use Rattle.grid_near.specs.Directions.{IsBeside, box_of, wrapped_beside}
pub use Rattle.grid_near.specs.Marks.{TakesCounted, AnswersCounted, TakesSummed, AnswersSummed, count_around, sum_around, near, table, placed_cells}
pub use Rattle.grid_near.specs.NearCounts.{CallableNear, CountsNear}
unfoldable pub use Rattle.grid_near.specs.Neighbors.{neighbors4, neighbors8, wrapped_neighbors4, wrapped_neighbors8}
pub use Rattle.grid_near.specs.Neighbors.{neighbors_of, wrapped_neighbors_of, around_of, step_count, GivesNear, placed, around4, around8, before, cell_at}
pub use Rattle.grid_view.specs.Found.{CallableAtCells, AnswersAt, FoundFirst, FoundAll}
pub use Rattle.grid_view.specs.Nearest.{nearest_below}
pub use Rattle.grid_view.specs.Same.{same_rows, same_view, same_view_per, same_view_equiv}
pub use Rattle.grid_view.specs.Texts.{table_text, rows_text, items_text, lines_text, numbers, longest, row_line, width_or_longest, pretty_text}
pub use Rattle.grid_view.specs.View.{sub_table, turned, cut, first_of}
pub use Rattle.std.specs.Borrow.{sem}
pub use Rattle.std.specs.Fmt.{DisplaysOnOk}
pub use Rattle.std.specs.Fn.{FnReturnsAt}
