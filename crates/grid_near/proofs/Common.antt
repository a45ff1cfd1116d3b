-- The names that most proofs cite, passed on from one place. Declares nothing. Lemmas that
-- definitions cite import none of it.
pub use Rattle.grid_base.proofs.Common.{lines_of, AllZip, ReturnsAtCell, cons_option, cases_lt, slice_get_read, along, positions_of, mod_below, add-mod_right, table_of, HoldsSize, common_steps, slice_get_within, get_or_from_slice_get, drop_all, mod-mul-add, row_count, col_count, cell, place, from_bool, sum_by-cons, get_or-set_at, ⊤, YieldsFirstBy, MakesProgress, at_most, min-eq_left, min-le_left, from_front, map-map}
pub use Rattle.grid_base.proofs.Lemmas.{holds, zip_nothing, answers_more, view-rows, get_along, all_passed, length-places, get-zip, zip_even}
pub use Rattle.grid_base.proofs.StorageLemmas.{place_within}
pub use Rattle.grid_base.proofs.TableLemmas.{length_cons, cell_past_rows, IsSome_within, past_cols}
pub use Rattle.grid_base.proofs.ViewLemmas.{view-cols, view-table, view-cell}
pub use Rattle.grid_near.specs.Around.{cells_from, strided_cell, cell_by, by_strides, by_steps, strided_table, positions, beside, start_of, next_step, HoldsCells, position_of, if_within, IsAround}
pub use Rattle.grid_near.specs.Marks.{MarkAt, MarksLine, spot}
pub use Rattle.grid_near.specs.NearCounts.{MayAnswer, MayCount, CountsNear, SumsNear}
unfoldable pub use Rattle.grid_near.specs.Neighbors.{neighbors4, neighbors8, wrapped_neighbors4, wrapped_neighbors8}
pub use Rattle.grid_near.specs.Neighbors.{cell_at, around_of, both, around_before, around_after, before, placed, CellsInOrder, PositionsInOrder}
pub use Rattle.grid_near.specs.Prelude.{step_count, placed_cells, near, table, around, positions_from, box, side, strides_of, IsThere, MarksCells, MarksBeside, AnswersCounted, AnswersSummed, AreBeside, WithEnds, IsBeyond, count_around, sum_around}
