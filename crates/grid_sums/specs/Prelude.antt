-- The words of contracts, passed on from one place. Declares nothing.
pub use Rattle.grid_base.specs.Table.{row_count, col_count}
pub use Rattle.grid_view.specs.View.{sub_table}
pub use Rattle.grid_sums.specs.Numbers.{list_sum, table_sum, IsMean, AreNumbers, ReturnsFor, CallableAtCells}
