-- The names that most proofs cite, passed on from one place. Declares nothing. Lemmas that
-- definitions cite import none of it.
pub use Rattle.grid.proofs.ConversionLemmas.{AllZip-concat_rows, equal_rows_are}
pub use Rattle.grid.proofs.MadeLemmas.{CanCut-cells}
pub use Rattle.grid.specs.Conversion.{equal_rows}
pub use Rattle.grid_base.proofs.ClosureLemmas.{pairs_pure}
unfoldable pub use Rattle.grid_base.proofs.Common.{cells_by, tabulate}
pub use Rattle.grid_base.proofs.Common.{map-append, GridValue, storage, col_count, length-map, AllZip, IsTable, take_more, concat_rows, list_any, map-map, All-push, AllZip-long, flat_map-append, CanCut, range_with_len, cons_option, slice_get-map, cases_eq, row, row_count, cell, transposed, place, table_of, All-append, IfOk-weaker}
pub use Rattle.grid_base.proofs.Lemmas.{length-concat_rows}
pub use Rattle.grid_base.proofs.StorageLemmas.{length-storage}
pub use Rattle.grid_base.proofs.ViewLemmas.{view-cols, view-table, view-storage, HoldsSize-cut, same_by_storage, none_by_storage, CanCut-storage}
pub use Rattle.grid_json.specs.Content.{written, Content, Layout}
pub use Rattle.grid_json.specs.Prelude.{view, Data, AnswersItem, array, AnswersCell, cells_from, is_field, order_name, MayBeRow, items_view, string, GivesOrMemory, parts_of, or_refuse, has_unknown, order_in, contents, cut, reading, MayRead, number, unsigned, object, member, no_members, cols_in, items_in, value_of, IsRows, MayBeRows, AddsRow, IsMemoryOrBad, layout, Gives, members_view}
pub use Rattle.grid_json.specs.Reading.{and_then, Parts, can_cut}
pub use Rattle.grid_json.specs.Rows.{array_of, AreCells, AreRows, IsBadCell, IsBadRow, IsFault, IsRow, MayReadItems, GivenBy}
pub use Rattle.serde_json.proofs.Views.{view-Array, items_len-items_view}
pub use Rattle.serde_json.specs.Data.{Items, null}
pub use Rattle.serde_json.specs.Events.{items_len}
pub use Rattle.serde_json.specs.Find.{at, get_item, as_array}
pub use Rattle.serde_json.specs.View.{items_of, members_of}
pub use Rattle.std.proofs.lemmas.Result.{err_from_is_err_and}
