-- The words of contracts, passed on from one place. Declares nothing.
unfoldable pub use Rattle.grid_base.specs.Table.{tabulate}
pub use Rattle.grid_base.specs.Table.{row_count, col_count, InRange, cell}
pub use Rattle.grid_paths.specs.Around.{AreSteps, Outcome, VisitsEach}
pub use Rattle.grid_paths.specs.Cheapest.{CostWalk, IsCheapestPath, IsCostPath, Holds, HasLeastCosts}
pub use Rattle.grid_paths.specs.Closures.{answers_by, IsAnswer, AreAnswers, HoldsOfAnswers}
pub use Rattle.grid_paths.specs.Flood.{IsFlood, way_of}
pub use Rattle.grid_paths.specs.Frontier.{sums_of, waiting, Puts, Pops, IsEmptied, IsFrontier, Enters, IsReady, IsNext, IsOver, IsSearching}
pub use Rattle.grid_paths.specs.Numbers.{IsNumbered, IsScanned}
pub use Rattle.grid_paths.specs.Regions.{AreRegions, AreNumbers}
pub use Rattle.grid_paths.specs.Search.{HaveOneSize, IsMarked, unreached, HasLeastUpTo, IsSettled}
pub use Rattle.grid_paths.specs.Taken.{places, undone, IsWritten, CanUndo, IsPassed, Takes}
pub use Rattle.grid_paths.specs.Trail.{IsTrail}
pub use Rattle.grid_paths.specs.Walks.{IsStep, IsOpen, IsPath, Walk, IsShortestPath, IsFilled, alike, HasLeastSteps, HasLeastFrom}
pub use Rattle.grid_paths.specs.Bfs.{IsCounting, Numbers, mask_of, CanReach, Reaches, IsBlank, Marks}
pub use Rattle.grid_paths.specs.Width.{Reading, narrow, wide, numbers, HasRoom, limit_of, side_of}
pub use Rattle.std.specs.Cmp.{IsEquivalence}
