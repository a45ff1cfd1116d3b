-- The words of contracts, passed on from one place. Declares nothing.
pub use Rattle.grid_base.specs.Clones.{ClonesAreEqual}
pub use Rattle.grid_base.specs.Lines.{counted}
pub use Rattle.grid_base.specs.Order.{storage}
pub use Rattle.grid_base.specs.Table.{row, row_count, col_count, concat_rows}
pub use Rattle.grid_view.specs.Found.{CallableAtCells, FoundFirst, FoundAll}
pub use Rattle.grid_view.specs.Nearest.{nearest_below}
pub use Rattle.grid_view.specs.Same.{AreSame, same_rows, same_view, same_view_per, same_view_equiv}
pub use Rattle.grid_view.specs.Texts.{table_text, items_text, lines_text, numbers, longest, row_line, width_or_longest, pretty_text}
pub use Rattle.grid_view.specs.View.{offset, turned, cut, first_of, crossed}
pub use Rattle.std.specs.Fmt.{DisplaysOnOk, comma_space, debug_list}
