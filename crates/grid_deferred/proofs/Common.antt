-- The names that most proofs cite, passed on from one place. Declares nothing. Lemmas that
-- definitions cite import none of it.
pub use Rattle.grid.proofs.ColEditLemmas.{rows-across, cols-across, cell-cross, across-across, across_by_cells, across-none}
pub use Rattle.grid.proofs.EditAcrossLemmas.{IsApplicable, table-after, passed, applicable-edit, line-across, all-at, fitting-some, rows-edit_across, table-cols_edit, unless_refused-table, effect-across}
pub use Rattle.grid.proofs.EditSizeLemmas.{copies, expanded-put, prepended-put}
pub use Rattle.grid.proofs.LineEditLemmas.{cell_past}
pub use Rattle.grid.proofs.RunLemmas.{due-more, run_rows-more, run_replies-more, list_symmetry-more, list_symmetry-none, saturating_count-none, count_more, take_values, get_value, some_values, may_stop}
pub use Rattle.grid.proofs.TransposedEditLemmas.{either_way}
pub use Rattle.grid.specs.AllCells.{filled}
pub use Rattle.grid.specs.Edits.{without_rows}
unfoldable pub use Rattle.grid.specs.Prelude.{step_rows, step_reply}
pub use Rattle.grid.specs.Prelude.{CommandValue, lines, read, Edit, size, ReplyValue, command_value, pop, push, axis_of, line_is, takes_memory, apply, RowsAreKnown, ReplyIsKnown, EditReplyIsKnown, AreDue, delete_at, delete_range, line_count, done, step_shift, insert_at, insert_all, lines_refusal, edit_refusal, fitting_width, Effect, nothing, inserts, removes, after_effect, line_at, get, in_range, command_symmetry, reply_value, expand, prepend, line_width, pad_refusal, rows_added_shift, rows_taken_shift, delete_rows_shift, axis_order, edit_shift, size_is, remove_at, flag_is, range_effect, effect, edit_takes_memory, has_lines, edit_reply, insert_rows, expanded_rows, prepended_rows, pads_end, pads_front, EditIsKnown, first_width, list_symmetry, run_rows, run_replies, Ran, rows_after, reply_to, set_cell, swap_cells, fill, clear, cell_is, refused, command_refusal, unless_refused, MayStop}
pub use Rattle.grid_base.proofs.ActLemmas.{IsTable-act, rows-act, cols-act, act_is_transposed, cell-act}
unfoldable pub use Rattle.grid_base.proofs.Common.{act, symmetry_of, tabulate}
pub use Rattle.grid_base.proofs.Common.{row_count, col_count, IsTable, length-reverse, length-map, map-append, cases_lt, row, image_rows, image_cols, reverse-reverse, get_or-reverse, get_or-map, reverse-append, cell, list_any, list_all, slice_get_past, IsThen, saturating_count, and_comm, GridValue, Counts, beq, get_or_past, length-replicate, cases_eq, with_cell, with_cell_of, exchanged, splat_is_map, slice_get-map, map-set, map_over_more, items_of_each, take-map, drop-map, slice_get-get_or, or_comm, and-true, or-false, list_all-append, list_any-append, cases_Bool, both_ways, false_from_ne_true, All-pop, ClonesAreEqual, order_after, price, half, and_parts, IsSize, nil_from_length, into_iter_items}
pub use Rattle.grid_base.proofs.GroupLemmas.{act-act, act-identity, symmetry_of-product_from, act_all-is}
pub use Rattle.grid_base.proofs.Lemmas.{product, then_is, identity_product, product_identity}
pub use Rattle.grid_base.proofs.PartLemmas.{get-reverse}
pub use Rattle.grid_base.proofs.PriceLemmas.{price_within_half}
pub use Rattle.grid_base.proofs.StorageLemmas.{get-replicate}
pub use Rattle.grid_base.proofs.TableLemmas.{same_tables, IsSize-table}
pub use Rattle.grid_base.proofs.WriteLemmas.{IsTable-with_cell, rows-written, widths-written, cols-with_cell, cell-with_same, cell-with_other, rows-with_cell_of, cols-with_cell_of, IsTable-with_cell_of}
pub use Rattle.grid_deferred.specs.Carry.{shift_through, reverses_lines, mirrored_if, CarriesAt}
pub use Rattle.grid_deferred.specs.Deferred.{shown, base, pending, lender}
pub use Rattle.grid_deferred.specs.Prelude.{turned_reply, pending_after, transposed_command, flipped_command, mirrored_line, is_apply, carried, mirrored_insertion, RanDeferred, reverses_cells, Carries, mirrored_start, along, DeferredRunGives}
pub use Rattle.grid_deferred.specs.Run.{shown_shift, deferred_shift, edit_allowance, step_allowance, run_allowance, settling_price}
pub use Rattle.grid_deferred.specs.Through.{edit_of_flipped, edit_of_reversed, base_axis, other_axis, reversed_if}
pub use Rattle.std.proofs.lemmas.List.{same_lists}
