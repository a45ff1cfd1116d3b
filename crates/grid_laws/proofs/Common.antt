-- The names that most proofs cite, passed on from one place. Declares nothing. Lemmas that
-- definitions cite import none of it.
pub use Rattle.grid.proofs.EditSizeLemmas.{cols-take, IsTable-take, copies, expanded-put, prepended-put, put-no_lines, LinesFit, IsTable-put, IsTable-width, cols-put_lines, row-copies, HasWidth-copies}
pub use Rattle.grid.proofs.FlipLemmas.{opposite_place}
pub use Rattle.grid.proofs.LineEditLemmas.{range_rows, delete_rows_one, done_rows, refused_rows, crossed_rows}
pub use Rattle.grid.proofs.RowEditLemmas.{rows-take, row-take_before, row-take_after, row-put_before, row-put_new, row-put_after, rows-put, shift-taken}
pub use Rattle.grid.proofs.RunLemmas.{same_run_rows, same_run_replies}
pub use Rattle.grid.proofs.SeenIteratorLemmas.{place_flipped}
pub use Rattle.grid.proofs.TransposedEditLemmas.{fits_across, col_inserted, twice_across}
pub use Rattle.grid.specs.Edits.{insert_col}
unfoldable pub use Rattle.grid.specs.Prelude.{step_rows}
pub use Rattle.grid.specs.Prelude.{command_symmetry, without_rows, CommandValue, step_shift, rows_taken_shift, delete_rows_shift, insert_rows, rows_added_shift, ReplyValue, list_symmetry, Edit, delete_at, delete_range, expand, prepend, lines, pad_refusal, edit_refusal, edit_shift, expanded_rows, prepended_rows, effect, after_effect, reply_value, run_rows, run_replies, command_value}
pub use Rattle.grid_base.proofs.ActLemmas.{IsTable-act, rows-act, cols-act, cell-act, source_within}
unfoldable pub use Rattle.grid_base.proofs.Common.{act}
pub use Rattle.grid_base.proofs.Common.{IsTable, storage, row_count, col_count, cases_lt, cases_eq, flipped, order_after, cond-true, cond-false, cell, place, price, div-mul-add, mod-mul-add, row, on_ok_weaker, GridValue, Counts, saturating_count, IsInverse, InRange, nil_from_length, image_rows, image_cols, source_row, source_col, swapped_from_swap, length-swap, slice_get-get_or, slice_get_past, length-replicate, mul-add-lt, div_below, mod_below, same_from_place, on_err_weaker, common_steps, IfOk-weaker}
pub use Rattle.grid_base.proofs.GroupLemmas.{act-act, act-identity, order_after-order_after}
pub use Rattle.grid_base.proofs.Lemmas.{inverse_is, inverse_left, product, then_is, inverse_acts}
pub use Rattle.grid_base.proofs.StorageLemmas.{length-storage, get-storage, has_place, get-take, get_append_left, get_append_right, place_within, get-replicate}
pub use Rattle.grid_base.proofs.TableLemmas.{same_cells, same_tables}
pub use Rattle.grid_base.proofs.ViewLemmas.{same_grid_value, flipped-flipped, same_by_storage, none_by_storage, CanCut-storage}
pub use Rattle.grid_deferred.proofs.RunLemmas.{rows_back, cols_back}
pub use Rattle.grid_deferred.proofs.StepThroughLemmas.{table-step}
pub use Rattle.grid_deferred.specs.Run.{settling_price, RanDeferred}
pub use Rattle.grid_laws.specs.Least.{IsLeast, HasDifferentCells, filled_up, AreWithin, Makes, Shifts, Lacks, GrewByLeast, EditShifts, swapped_all}
pub use Rattle.std.proofs.lemmas.Result.{IfErr-weaker}
