use Rattle.std.proofs.Common.{◌*◌, ◌-◌}
use Rattle.grid_paths.proofs.Common.{row_count, col_count, unreached, IsSearching, sums_of}
use Rattle.grid_paths.proofs.Lemmas.{IsKept}
use Rattle.grid_paths.specs.Kept.{trail_of}
use Rattle.grid_paths.proofs.cheap_path.path_by.Given as goal

abbrev pub invariant-loop-here : goal.invariant-loop-here
invariant-loop-here g l =
    record {
      search : IsSearching g.N.Ord.cmp g.N.Width.reads l.connectivity l.fn.costs l.fn.from l.search;
      kept : IsKept l.connectivity l.fn.from l.fn.costs.rows (sums_of g.N.Width.reads l.search) l.search.left.rows l.to (trail_of g.N.Width.reads l.trail.items);
    }

abbrev pub decreases-loop-here : goal.decreases-loop-here
decreases-loop-here g l = row_count l.fn.costs.rows * col_count l.fn.costs.rows - unreached l.search.left.rows
