-- The words of contracts, passed on from one place. Declares nothing.
pub use Rattle.grid_base.specs.ClosureCalls.{CallableAtRefs, ReturnsAtCell, PairsUp}
pub use Rattle.grid_base.specs.Layout.{lines_of}
pub use Rattle.grid_base.specs.Strides.{strides_of}
pub use Rattle.grid_near.specs.Around.{side, around, box, positions_from, IsInner, IsThere}
pub use Rattle.grid_near.specs.Directions.{box_of, clockwise, wrapped_beside, IsBeside, IsWithin}
pub use Rattle.grid_near.specs.Marks.{IsBeyond, count_around, sum_around, MarksBeside, MarksCells, WithEnds, near, table, placed_cells, AnswersCounted, AnswersSummed, AreBeside, CallableOnCounts, AreCounted, CallableOnSums, AreSummed}
pub use Rattle.grid_near.specs.Neighbors.{step_count}
