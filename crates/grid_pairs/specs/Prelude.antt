-- The words of contracts, passed on from one place. Declares nothing.
pub use Rattle.grid_base.specs.GridValue.{SameSizeAndOrder}
pub use Rattle.grid_base.specs.Order.{place, storage}
pub use Rattle.grid_base.specs.Table.{row, row_count, col_count, cell, InRange, transposed}
pub use Rattle.grid_pairs.specs.Joined.{CallableAtPairs, JoinedBy, ReturnsAlways, joined}
pub use Rattle.grid_pairs.specs.Parts.{tiles, windows, GivesParts, GivesSize, GivesUpTo}
pub use Rattle.grid_pairs.specs.Folded.{CallableInRows, CallableInCells, AreFolds, IsFold}
pub use Rattle.grid_pairs.specs.Found.{FoundFirst}
