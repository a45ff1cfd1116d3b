-- The lemmas of this crate, passed on to the proofs of its functions. Declares nothing.
pub use Rattle.grid.proofs.AppendLemmas.{put_last, rows_appended, cols_appended}
pub use Rattle.grid.proofs.CellCallLemmas.{seen_callable, seen_mapped, callable_positions, answers_made, seen_made, mapped_as, fails_at}
pub use Rattle.grid.proofs.CellWriteLemmas.{seen_written_cell, rows_swapped}
pub use Rattle.grid.proofs.CloneLemmas.{clone_seen}
pub use Rattle.grid.proofs.ColEditLemmas.{cols-across, rows-across, across-across, across-none}
pub use Rattle.grid.proofs.ConversionLemmas.{CanCut-rows, rows_shape, rows_equal, CanCut-same, cut_memory, cut_shape, concat_rows_more, AllZip-concat_rows, row-map, length-even}
pub use Rattle.grid.proofs.EditViewLemmas.{put_line, table_of-line, storage-one}
pub use Rattle.grid.proofs.EmptyingLemmas.{slot_by_order, product_by_order, emptying_none, emptying_at, emptying_next, held_all, full_slot, Emptying}
pub use Rattle.grid.proofs.ExchangeLemmas.{part_across, stretch_row, stretch_cols, stretch_within, stretch_below, woven_lent, row_lent, row_exchanged, RowsLeft, rows_left_all, last_row, row_left, RowsFrom, rows_none, rows_more}
pub use Rattle.grid.proofs.FlipLemmas.{after_transpose, from_its_flags, transpose_then_flips, price_of_flips, transposed_rows, transposed_cols, flip_cols_across, price_across, rotate_half_by_part, flip_rows_by_lines, flip_rows_by_each}
pub use Rattle.grid.proofs.FromViewLemmas.{part_size, from_storage, made_part}
pub use Rattle.grid.proofs.IndexedIteratorLemmas.{same_at, gives_indices_of, indexed_fits, gives_owned_cells, gives_cells, gives_mut_cells}
pub use Rattle.grid.proofs.LayoutLemmas.{in_place_rows, in_place_cols}
pub use Rattle.grid.proofs.LineEditLemmas.{refused_edit, done_edit, crossed_edit, pushed_edit, removed_rows, removed_reply, popped_rows, popped_reply, range_rows, range_reply, delete_rows_one, delete_reply_one, done_rows, done_reply, insert_all_memory, pad_none, padded_rows, padded_reply, read_rows, read_some, read_none, get_past, stepped_edit}
pub use Rattle.grid.proofs.MadeLemmas.{made_size, CanCut-cells, made_fill, All-replicate, All-none, length-storage_none}
pub use Rattle.grid.proofs.MadeLikeLemmas.{like_same, like_mapped, like_fault}
pub use Rattle.grid_near.proofs.NearLemmas.{gives_around}
pub use Rattle.grid.proofs.PastedLemmas.{pasted, updated_none, filled_part, clipped_as, clipped_within, pasted_clipped, updated_cell, set_wrote, updated_col, updated_row, updated_part, in_part_within}
pub use Rattle.grid_view.proofs.PositionLemmas.{FoundBefore, before_none, before_next, before_row, before_all, HoldsBefore, found_none, found_next, found_one, found_row, found_all, found_in_range}
pub use Rattle.grid.proofs.ResizeLemmas.{corner_rows, corner_resized, resizes_to, product_some, resized, corner_both}
pub use Rattle.grid.proofs.ReverseLemmas.{reversing_none, reversing_more, reversing_all, lines_apart, lines_within, Reversing}
pub use Rattle.grid.proofs.RunLemmas.{running_none, running_more, ran_still, take_values, get_value, some_values, may_stop, Running}
pub use Rattle.grid.proofs.SameLemmas.{same_stored}
pub use Rattle.grid.proofs.SeenAllCellsLemmas.{whole_same, whole_cells, seen_filled, seen_none}
pub use Rattle.grid.proofs.SeenEditLemmas.{taken_in, taken_cells, taken_small, rows_taken_out, taken_fits, taken_wide, closed, put_cells, put_fits, rows_put, no_room, room, taken_shift, RowsBehind-lines, RowsBehind-put, taken_out, taken_storage}
pub use Rattle.grid.proofs.SeenIteratorLemmas.{seen_given_back, seen_refilled, seen_keeps, seen_indexed, seen_transposed, seen_written, seen_held, seen_keeps_from, place_flipped}
pub use Rattle.grid.proofs.SeenLemmas.{sides_small, seen_rows, seen_cols, seen_storage, seen_same, seen_row_in, seen_col_in, seen_empty}
pub use Rattle.grid.proofs.SeenPaddingLemmas.{pads_cols, size_across, none_added, padding_none, pads_none, pad_cols, pad_rows_small, pad_shift, pad_cells, pads_rows, pad_fits}
pub use Rattle.grid.proofs.SplitLemmas.{times_none, same_cut, can_cut_again, cols_kept, cols_split, IsTable-tail, cols-tail, all_taken, take_without}
pub use Rattle.grid.proofs.SwapLineLemmas.{rows_next, rows_done, RowsSwapping, cols_by_rows, rows_by_blocks}
pub use Rattle.grid_view.proofs.TextLemmas.{whole_row, flat_map_push, flat_map_next}
pub use Rattle.grid.proofs.TransposedEditLemmas.{twice_across, either_way, fits_across, cols_inserted, cols_taken, col_inserted, col_removed}
