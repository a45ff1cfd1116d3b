-- The lemmas of this crate, passed on to the proofs of its functions. Declares nothing.
pub use Rattle.grid_near.proofs.AroundLemmas.{steps_shown, stored_table, no_cells, strided_there, there_at, no_position, open_left, box_within, inner_item, inner_step, cells_skipped, position_within, position_item, step_item, start_step, position_counted, no_positions}
pub use Rattle.grid_near.proofs.MarkLemmas.{side_first, side_second, board_passed, all_placed, within_board, cell_placed, marked_more, holds_size, line_marked, board_counted, board_summed}
pub use Rattle.grid_near.proofs.NeighborLemmas.{few_left, goes_on, cells_in_order, positions_in_order, few_from}
pub use Rattle.grid_near.proofs.WrappedLemmas.{none_done, joined_left, not_done}
pub use Rattle.grid_near.proofs.NearCountLemmas.{counting_takes, counting_yes, counting_no, counting_ended, Counting}
