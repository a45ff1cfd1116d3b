-- The words of contracts, passed on from one place. Declares nothing.
pub use Rattle.core.specs.Mem.Slots.{slots_items, slots_filled, slots_len, SamePlaces, Refills, FitsRoom, IsFull}
pub use Rattle.core.specs.Mem.Slots.Ownership.{Filled, SameOutside}
pub use Rattle.grid_base.specs.Append.{AppendsEach}
unfoldable pub use Rattle.grid_base.specs.Blocks.{swapped_back, swapped_forward}
pub use Rattle.grid_base.specs.Blocks.{BlocksExchanged, PartReversed, BlocksSwapped, BlockTaken}
pub use Rattle.grid_base.specs.Clones.{ClonesAreEqual}
pub use Rattle.grid_base.specs.ClosureCalls.{MapsThrough, MapsTo, PairsUp, CallableAtEach, CallableAtCells, CallableAtItems, CallableAtRefs, ReturnsAtCell, CallableTimes, Generates, FailsFirst}
pub use Rattle.grid_base.specs.Flags.{flags_of, from_flags}
pub use Rattle.grid_base.specs.Gather.{items_of_each, last_of, before_last}
pub use Rattle.grid_base.specs.GridLineIterMut.{line_mut_rest, line_mut_cells, line_mut_name}
pub use Rattle.grid_base.specs.GridValue.{HoldsSize, GridValue, FitsUsize, SameSizeAndOrder}
pub use Rattle.grid_base.specs.Groups.{Woven, Widened, Opened, TakenOut, Closed}
pub use Rattle.grid_base.specs.IndexedIterMut.{indexed_mut_rest}
pub use Rattle.grid_base.specs.IndexedIterators.{GivesCells, GivesOwnedCells, GivesMutCells, IsCellAt}
pub use Rattle.grid_base.specs.Iterators.{GivesLine, GivesIndexed, GivesLines, GivesRefs, GivesMutRefs, GivesOwned, GivesMutIndexed, GivesOwnedIndexed}
pub use Rattle.grid_base.specs.Layout.{positions_of, lines_of}
pub use Rattle.grid_base.specs.Lines.{counted, line_cells}
pub use Rattle.grid_base.specs.Move.{word_image, IsImageByWords, of_move, IsNormalForm, ActAlike}
pub use Rattle.grid_base.specs.Order.{storage, flipped, place, table_of, CanCut}
unfoldable pub use Rattle.grid_base.specs.Positions.{positions}
pub use Rattle.grid_base.specs.Positions.{StandsAt, along}
pub use Rattle.grid_base.specs.InPlace.{TransposedInPlace, Mirrored, Transposed}
pub use Rattle.grid_base.specs.Refill.{FilledBy, PutBack}
pub use Rattle.grid_base.specs.Room.{GroupsMoved, HasGroups}
pub use Rattle.grid_base.specs.Span.{IsSpan}
pub use Rattle.grid_base.specs.Strides.{LinesInOrder, LinesInReverse, EachLineInOrder, EachLineInReverse, every, strided, strides_of}
unfoldable pub use Rattle.grid_base.specs.Symmetry.{act, symmetry_of}
pub use Rattle.grid_base.specs.Symmetry.{source_row, source_col, image_rows, image_cols, transposes, order_after, IsThen, IsInverse, half, price, HasImageSize, IsAssociativeAt, IsNeutralAt, IsUndoneAt}
unfoldable pub use Rattle.grid_base.specs.Table.{tabulate, cells_by}
pub use Rattle.grid_base.specs.Table.{row_count, col_count, cell, IsTable, IsSize, transposed, row, concat_rows, InRange, with_cell, with_cell_of, exchanged}
pub use Rattle.grid_base.specs.Tally.{saturating_count, Counts, CanShift, HasShifted}
pub use Rattle.grid_base.specs.Updated.{CallableFrom, CallableAtTable, PairsUpTable, UpdatedFrom}
pub use Rattle.std.specs.Borrow.{sem}
pub use Rattle.std.specs.Fn.{FnReturnsAt}
pub use Rattle.std.specs.Int.{div_ceil}
pub use Rattle.std.specs.Iterator.{YieldsFirst, YieldsLast, item_count, UpTo, at_most, YieldsFirstRef, YieldsLastRef, YieldsFirstBy, YieldsLastBy}
pub use Rattle.std.specs.Iterator.Runs.{YieldsMutRefsInOrder, YieldsMutRefsInReverse}
pub use Rattle.std.specs.Iterator.SizeHint.{IsWithinCount}
pub use Rattle.std.specs.Slice.Iter.{iter_rest, iter_mut_rest, iter_mut_steps, iter_mut_steps_back}
pub use Rattle.std.specs.Vec.Iter.{into_iter_items}
