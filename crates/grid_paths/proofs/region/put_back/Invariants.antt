use Rattle.std.proofs.Common.{◌≡◌, length}
use Rattle.grid_paths.proofs.Common.{SameSizeAndOrder, undone}
use Rattle.grid_paths.proofs.region.put_back.Given as goal

abbrev pub invariant-loop-x : goal.invariant-loop-x
invariant-loop-x g l =
    record {
      same : SameSizeAndOrder l.fn.grid l.grid;
      saves : undone l.taken.items l.grid.rows ≡ undone l.fn.taken.items l.fn.grid.rows;
    }

abbrev pub decreases-loop-x : goal.decreases-loop-x
decreases-loop-x g l = length l.taken.items
