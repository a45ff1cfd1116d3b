-- The names that most proofs cite, passed on from one place. Declares nothing. Lemmas that
-- definitions cite import none of it.
pub use Rattle.grid.specs.Conversion.{HasShape}
pub use Rattle.grid.specs.Edits.{padding_count}
pub use Rattle.grid.specs.Iterators.{stored, refilled, refilled_from, IsSameSize, KeepsSize, KeepsSizeFrom}
pub use Rattle.grid.specs.Pasted.{in_part, counted_from, cell_of, CellUpdated}
unfoldable pub use Rattle.grid.specs.Prelude.{step_rows, step_reply, neighbors4, neighbors8, wrapped_neighbors4, wrapped_neighbors8}
pub use Rattle.grid.specs.Prelude.{insert_rows, without_rows, HasSize, InRows, PartTaken, RowTaken, RowGroups, IsWithin, CellsUpdated, without_cols, held, sub_table, FitsRow, IsMade, insert_cols, expanded_rows, prepended_rows, insert_all, lines, lines_refusal, line_is, reply_value, rows_added_shift, command_value, CallableAtRefs, saturating_count, MappedBy, MadeBy, FailsAt, insert_col, has_cells, AreEven, Edit, read, push, insert_at, pop, remove_at, delete_at, delete_range, expand, prepend, edit_refusal, refused, nothing, removes, range_effect, effect, after_effect, edit_reply, LinesReversed, ReplyValue, pad_refusal, PadsRows, EachCellIs, around_of, IsResized, rows_taken_shift, filled, CallableAtPositions, CallableOver, IsGridClone, insert_into_rows, expanded_cols, prepended_cols, CanJoin, equal_rows, CutAnswer, fitting_width, unless_refused, Effect, inserts, line_at, pads_end, pads_front, by_order, are_full, HoldCells, InRow, EachLineReversed, get, done, cell_is, flag_is, in_range, pad_edit, EditIsKnown, Edited, Stepped, CallableNear, CountsNear, cell_at, overlaid, IsClipped, PartUpdated, part_filled, FoundAll, IsCorner, ResizesTo, CommandValue, takes_memory, RowsAreKnown, ReplyIsKnown, EditReplyIsKnown, AreDue, command_symmetry, list_symmetry, price_at, shift_at, run_rows, run_replies, Ran, MayStop, cols_if_rows, PadsCols, IsOnlyDefault, cols_swapped, FitsCol, AreClones, CallableTimes, CallableAtEach, edit_value, request_value}
pub use Rattle.grid.specs.Resize.{cell_or}
pub use Rattle.grid.specs.Run.{run_price, run_shift, LeftByRun}
pub use Rattle.grid.specs.Step.{memory_at}
pub use Rattle.grid.specs.View.{grid_value, with_grid_cell, with_cells}
pub use Rattle.grid_base.proofs.ActLemmas.{rows-act, cols-act, act_is_transposed, cell-act, IsTable-act}
pub use Rattle.grid_base.proofs.ClosureLemmas.{take_next}
unfoldable pub use Rattle.grid_base.proofs.Common.{act, tabulate, positions, cells_by, symmetry_of, padded_integral, char_count}
pub use Rattle.grid_base.proofs.Common.{row_count, col_count, row, IsTable, GridValue, table_of, cases_lt, cell, storage, place, HoldsSize, cases_eq, InRange, drop_all, length-map, concat_rows, nil_from_length, flipped, AllZip, length-replicate, slice_get-get_or, map-append, Woven, on_ok_weaker, items_of_each, unwrap_or-slice_get, IsSize, with_cell, get_or-map, CanCut, get_or_from_slice_get, slice_get_within, take-append_seam, on_err_weaker, All-get_or, Opened, nat_tests, mul-add-lt, ClonesAreEqual, join_by, to_z-of_z, PairsUp, FailsFirst, exchanged, cons_option, same_from_all_zip, transposed, take_more, list_all, get_or-replicate, Closed, refill, price, mul-le, IsCellAt, GivesCells, SameSizeAndOrder, All-nil, BlocksSwapped, pointwise, length-swap, signed_decimal, styled_signed_decimal, format_spec, shows_from, displays_from, fold-append, common_steps, w128, CallableAtCells, CallableAtItems, ReturnsAtCell, FitsUsize, range_with_len, length-insert, flat_map-append, then_text_assoc, list_any, and_parts, or_parts, eqb-false, drop_more, get_or_past, list_all_at, BlockTaken, flags_of, from_flags, PartReversed, YieldsFirst, YieldsFirstBy, EveryRun, EachRunFrom, AllItems, ItemsMapTo, from_front, at_some, at-is, GivesOwnedCells, GivesMutCells, TransposedInPlace, IfOk-weaker, slice_get_past, mul-mod_left, sum_by-cons, All-cons, All-head, All-tail, All-from_get_or, option_or, get_or_append_left, get_or-append_seam, slice_get_cases, Widened, take-map, All-pop, slice_get-map, order_after, Counts, drop-append_seam, eqb-suc-zero, TakenOut, length_refill, written_from, AppendsEach, swap_is, with_cell_of, repeat, flat_map_more, ord_max, into_iter_items, length_all_zip, YieldsList-from_vec, YieldsList-end, shows_then, get_or_default, HasWritten, IsPlainFormatter, shows_part_then, All-append, ints, half}
pub use Rattle.grid_base.proofs.GroupLemmas.{act-identity, act-act, symmetry_of-product_from, symmetry_of-more, order_after-order_after, normal-acts}
pub use Rattle.grid_base.proofs.Lemmas.{view-rows, rows-vecs, get-zip, product, length-places, length-concat_rows, holds}
pub use Rattle.grid_base.proofs.PlaceLemmas.{get-places}
pub use Rattle.grid_base.proofs.PlacedCellLemmas.{zip_within}
pub use Rattle.grid_base.proofs.PriceLemmas.{price_within_half}
pub use Rattle.grid_base.proofs.StorageLemmas.{place_within, length-storage, get-storage, has_place, get_append_left, get_append_right, get-take, get-drop, width-table_of, cell-table_of, get-replicate, IsFull-table_of}
pub use Rattle.grid_base.proofs.TableLemmas.{cell_past_rows, past_cols, rows-tabulate, IsFull, cell-tabulate, same_tables, tabulate-same, IsSize-table, IsFull-cells, width-tabulate, IsSome_within, tabulate-cells, same_cells, cols-tabulate, cell_in_range}
pub use Rattle.grid_base.proofs.ViewLemmas.{view-cols, view-cell, none_by_storage, same_grid_value, view-storage, HoldsSize-transposed, view-table, flipped-flipped, same_by_storage, view-transpose, by_storage, HoldsSize-none, CanCut-storage, FitsUsize-size, view-past_cols, view-past_rows, view-act, table_of-none, HoldsSize-cut}
pub use Rattle.grid_base.proofs.WeaveLemmas.{at_equal}
pub use Rattle.grid_base.proofs.WriteLemmas.{cell-with_other, cell-with_same, view-write, view-swap, same_place, cell-written, get-set_same, get-set_other, rows-with_cell_of, cols-with_cell_of, IsTable-with_cell_of, rows-exchanged, cols-exchanged}
pub use Rattle.grid_base.specs.IndexedIterMut.{indexed_mut_rest}
pub use Rattle.grid_commands.proofs.FactorLemmas.{factor_small}
pub use Rattle.grid_near.specs.NearCounts.{MayCount}
pub use Rattle.grid_near.specs.Neighbors.{both}
pub use Rattle.grid_view.proofs.SameLemmas.{row_at, row_is, same_at, same_by}
pub use Rattle.grid_view.specs.Found.{AnswersAt}
pub use Rattle.grid_view.specs.Value.{ViewValue}
