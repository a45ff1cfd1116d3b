-- The words of contracts, passed on from one place. Declares nothing.
pub use Rattle.grid_json.specs.Content.{contents, layout}
pub use Rattle.grid_json.specs.Reading.{is_field, has_unknown, parts_of, or_refuse, cols_in, items_in, cells_from, order_named, order_in, cut, reading, Gives, GivesOrMemory, order_name, value_of}
pub use Rattle.grid_json.specs.Rows.{AddsRow, AnswersCell, AnswersItem, IsMemoryOrBad, IsRead, IsRows, MayBeRow, MayBeRows, MayRead, ReadsBy, WritesBy}
pub use Rattle.serde_json.specs.Data.{Data, number, unsigned, string, array, object, member, no_members}
pub use Rattle.serde_json.specs.View.{view, items_view, members_view}
