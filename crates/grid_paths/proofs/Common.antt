-- The names that most proofs cite, passed on from one place. Declares nothing. Lemmas that
-- definitions cite import none of it.
pub use Rattle.grid.proofs.CellCallLemmas.{some_and_map}
pub use Rattle.grid.specs.AllCells.{MappedBy}
unfoldable pub use Rattle.grid_base.proofs.Common.{tabulate}
pub use Rattle.grid_base.proofs.Common.{row_count, col_count, cases_lt, cell, IsTable, slice_get_within, with_cell, slice_get_read, row, get_or_from_slice_get, on_ok_weaker, slice_get-get_or, sum_by-set, IfOk-weaker, SameSizeAndOrder, IsUpperBound, IsPermutation-sym, GridValue, sum_by-cons, cases_eq, slice_get_past, Contains-get_or, IsEquivalence, slice_get-map, ordering_then, Contains-permutation, ge_from_not_lt, cons_option, concat_rows, set_past, set-get_or, reverse-append, IsHeap, length-map, paste, take-paste}
pub use Rattle.grid_base.proofs.StorageLemmas.{length-storage}
pub use Rattle.grid_base.proofs.TableLemmas.{cell_in_range, cell_past_rows, IsFull, IsFull-cells, rows-tabulate, cell-tabulate, cell_past_cols, tabulate-same, tabulate-cells, past_cols}
pub use Rattle.grid_base.proofs.ViewLemmas.{same_grid_value}
pub use Rattle.grid_base.proofs.WriteLemmas.{cell-with_same, cell-with_other, same_or_other, rows-written, cols-with_cell}
pub use Rattle.grid_near.proofs.AroundLemmas.{mapped_there}
unfoldable pub use Rattle.grid_near.specs.Neighbors.{neighbors4, neighbors8}
pub use Rattle.grid_near.specs.Neighbors.{around4, around8, before, cell_at}
pub use Rattle.grid_paths.specs.Cheapest.{IsLeastCost, cost_at}
pub use Rattle.grid_paths.specs.Flood.{IsEntered, IsGoneOn, EnterWalk}
pub use Rattle.grid_paths.specs.Frontier.{entry, IsEnough, by_sum, entry_of}
pub use Rattle.grid_paths.specs.Numbers.{AreEqual, AreParts}
pub use Rattle.grid_paths.specs.Prelude.{IsStep, IsOpen, IsMarked, alike, AreSteps, Outcome, VisitsEach, InRange, unreached, way_of, HaveOneSize, Holds, Walk, undone, places, Enters, IsSearching, IsWritten, HasLeastFrom, CostWalk, answers_by, IsFlood, Reaches, IsPath, HasLeastUpTo, CanUndo, IsTrail, HasLeastCosts, AreRegions, AreNumbers, IsNumbered, IsScanned, IsShortestPath, IsSettled, IsFilled, HasLeastSteps, IsCheapestPath, IsPassed, IsReady, IsNext, IsOver, Puts, Pops, IsEmptied, sums_of, waiting, Reading, narrow, wide, numbers, HasRoom, IsAnswer, AreAnswers, HoldsOfAnswers, IsFrontier, Marks, IsCostPath, IsCounting, Takes, Numbers}
pub use Rattle.grid_paths.specs.Regions.{AreJoined, ComesBefore}
pub use Rattle.grid_paths.specs.Relaxing.{Entry, IsClosed, IsCostSearch, IsFirst, IsWaiting, HoldsUpTo, Relaxes, Comes}
pub use Rattle.grid_paths.specs.Search.{IsAt, Spread, WentAround, free, IsReached}
pub use Rattle.grid_paths.specs.Taken.{TakesAll, count_left, IsLeft, AreMarked, flag}
pub use Rattle.grid_paths.specs.Trail.{IsTrailOf}
pub use Rattle.grid_paths.specs.Walks.{DifferByOne, AreBeside, IsLeastSteps, WalkFrom, AreDiagonal, IsLeastFrom}
pub use Rattle.grid_paths.specs.Bfs.{Spreads}
