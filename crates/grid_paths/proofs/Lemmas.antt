-- The lemmas of this crate, passed on to the proofs of its functions. Declares nothing.
pub use Rattle.grid_paths.proofs.AlikeLemmas.{open_alike, alike_open, alike_fits}
pub use Rattle.grid_paths.proofs.AroundLemmas.{Before, Contains-from_get, AreSteps-sides, AreSteps-all}
pub use Rattle.grid_paths.proofs.CheapLemmas.{IsNext-ready, IsSearching-next, IsSearching-smaller, IsNext-comes, IsNext-least, settled_before, settled_fewer, settled_there, IsOver-no_way, IsCostSearch-stale, IsSearching-closed, IsSearching-begun, IsOver-least}
pub use Rattle.grid_paths.proofs.ClosureLemmas.{HoldsOfAnswers-if_ok, AreAnswers-mapped, HoldsOfAnswers-if_found, HoldsOfAnswers-is}
pub use Rattle.grid_paths.proofs.CountLemmas.{IsScanned-start, IsScanned-row, IsScanned-marked, IsScanned-numbered, AreNumbers-end, AreRegions-end}
pub use Rattle.grid_paths.proofs.FloodLemmas.{places_at, IsTaking-start, IsTaking-round, IsFlood-end, IsWritten-end, IsTaking, answers-same, way-same}
pub use Rattle.grid_paths.proofs.HeapLemmas.{least_first}
pub use Rattle.grid_paths.proofs.LeftLemmas.{free_there, inside_left, IsLeft-reach, Reaches-each, Reaches-around, IsLeft-blank}
pub use Rattle.grid_paths.proofs.NearLemmas.{all-near, sides-near}
pub use Rattle.grid_paths.proofs.NumberLemmas.{Numbers-around, IsNumbering-start, IsNumbering-round, IsNumbered-end, IsNumbering}
pub use Rattle.grid_paths.proofs.PathLemmas.{open_end, one_less, zero_at, IsPath-one, IsPath-push, step_side, step_any, IsShortestPath-from_number, no_walk}
pub use Rattle.grid_paths.proofs.QueueLemmas.{unreached_cells, IsTrimmed-start, IsTrimmed-round, IsTrimmed-trim, next_at, HasLeastFrom-trimmed, IsTrimmed}
pub use Rattle.grid_paths.proofs.RangeLemmas.{flood_in_range, path_in_range, found_in_range}
pub use Rattle.grid_paths.proofs.RegionLemmas.{outward_at, one_outward, IsWritten-start, IsWritten-next, IsWritten-all, IsFilled-flood, IsFilled-board, cells_mapped}
pub use Rattle.grid_paths.proofs.RelaxLemmas.{left_inside, same_size, Enters-closed, Enters-low, Enters-put, not_less, Enters-around}
pub use Rattle.grid_paths.proofs.SearchLemmas.{one_mark, IsSearch, HasLeastSteps-one, IsSettled-end, IsSettled-found}
pub use Rattle.grid_paths.proofs.StepLemmas.{in_range_as, at_end, none_marked, Grew, Spreads-mark, Marks-grew, Marks-fewer, Spreads-stay, none_at, IsSearch-start, start_reached}
pub use Rattle.grid_paths.proofs.TakenLemmas.{set_is, CanUndo-trans, undone-push, TakesAll-one, TakesAll-stay, undone-taken, CanUndo-each, Takes-each, Takes-around}
pub use Rattle.grid_paths.proofs.TrailLemmas.{IsFollowed, IsKept, IsFollowed-start, IsFollowed-found, IsFollowed-past, IsKept-start, IsTrail-push, IsKept-push}
pub use Rattle.grid_paths.proofs.WidthLemmas.{numbers-there, numbers-with, numbers-none_made, numbers-made, waits_too, waits_no_more, HasRoom-narrow}
