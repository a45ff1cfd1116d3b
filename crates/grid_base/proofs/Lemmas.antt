-- The lemmas of this crate, passed on to the proofs of its functions. Declares nothing.
pub use Rattle.grid_base.proofs.AppendLemmas.{leaving_length, leaving_more, leaving_cells, leaving_tail, Leaving, moving_none, moving_more, moved_all, moved_rest, Moving}
pub use Rattle.grid_base.proofs.ClosureLemmas.{AllZip-append, callable_cell, answers_more, FoldsTo-append, MapsThrough-append, callable_next, AllZip-length, callable_item}
pub use Rattle.grid_base.proofs.GatherLemmas.{Passed, rows-vecs, none_left, passed_step, left_over, column_left, column_length, columns_given, columns_done, lines_done, passed_line, all_left, left_to_give, lasts_step, no_item}
pub use Rattle.grid_base.proofs.GroupLemmas.{then_is, IsThen-product, product, word_symmetry, product_identity, identity_product, inverse_acts, inverse_is, inverse_left, then_acts, product_assoc, inverse_of, inverse_by_self, word_symmetry-more, word-acts, alike_normal, IsTable-test}
pub use Rattle.grid_base.proofs.InTurnLemmas.{Unweaving, unweaving_none, unweaving_run, unweaving_end, weaving_run, weaving_end, Weaving}
pub use Rattle.grid_base.proofs.LayoutLemmas.{holds}
pub use Rattle.grid_base.proofs.PartLemmas.{Turning, part_behind, blocks_behind, blocks_more, turning_more, exchanged_by_reversals}
pub use Rattle.grid_base.proofs.PlaceLemmas.{length-places, all_passed, get_along, length-left, place_and_rest, ahead_wide, get_ahead, within-places, one_left}
pub use Rattle.grid_base.proofs.PlacedCellLemmas.{get-zip, zip_nothing, placed_cells, zip_even, zip_last}
pub use Rattle.grid_base.proofs.TransposeLemmas.{in_place_by_halves, in_place_back}
pub use Rattle.grid_base.proofs.RemainingLemmas.{remaining_all, remaining_next, remaining_next_back, past_most, part_past_most, rows_passed, remaining_past}
pub use Rattle.grid_base.proofs.RoomLemmas.{with_waiting, none_waits, places_then, filled_join, filled_part, filled_below, filled_above, one_pasted, unweave_step, same_places, weave_step}
pub use Rattle.grid_base.proofs.ShiftLemmas.{moved_back, forward_swap, three_more, three_all, ThreeMoved, moved_forward}
pub use Rattle.grid_base.proofs.SinglyLemmas.{sending_none, sending_more, sending_end, Sending, bringing_none, bringing_more, bringing_end, Bringing}
pub use Rattle.grid_base.proofs.SpanLemmas.{span_within, row_is, first_place, span_written_back}
pub use Rattle.grid_base.proofs.SpreadLemmas.{first_line, spread, times_less, opening_none, opening_run, opening_end, Opening, closing_none, closing_run, closing_end, Closing, closed_by_reversals}
pub use Rattle.grid_base.proofs.SquareLemmas.{mirrored_below, mirrored_one, mirrored_beside}
pub use Rattle.grid_base.proofs.StorageLemmas.{length-concat_rows}
pub use Rattle.grid_base.proofs.StrideLemmas.{lines_in_order, lines_in_reverse, each_line_in_order, each_line_in_reverse, nth_found, line_step, length-strided, nth_row_found}
pub use Rattle.grid_base.proofs.SteppedLemmas.{backwards_first, backwards_last, drop-reverse, length-line_cells, side_by_side, side_reversed}
pub use Rattle.grid_base.proofs.SwapLemmas.{swap_parts}
pub use Rattle.grid_base.proofs.UpdateLemmas.{callable_from, updated_join, updated_all, updated_cell}
pub use Rattle.grid_base.proofs.ViewLemmas.{view-rows}
pub use Rattle.grid_base.proofs.WeaveLemmas.{woven_by_halves, woven_in_place, whole_of_halves, taken_in_place, exchanged_back}
