use Rattle.std.proofs.Common.{◌*◌, ◌-◌}
use Rattle.grid_paths.proofs.Common.{row_count, col_count, unreached, IsSearching}
use Rattle.grid_paths.proofs.costs.search_by.Given as goal

abbrev pub invariant-loop-here : goal.invariant-loop-here
invariant-loop-here g l = IsSearching g.N.Ord.cmp g.N.Width.reads l.connectivity l.fn.costs l.fn.from l.search

abbrev pub decreases-loop-here : goal.decreases-loop-here
decreases-loop-here g l = row_count l.fn.costs.rows * col_count l.fn.costs.rows - unreached l.search.left.rows
