use Rattle.grid_paths.proofs.Common.{SameSizeAndOrder, places, IsWritten}
use Rattle.grid_paths.proofs.Lemmas.{Before}
use Rattle.grid_paths.proofs.region.fill_all.Given as goal

abbrev pub invariant-loop-x : goal.invariant-loop-x
invariant-loop-x g l =
    record {
      same : SameSizeAndOrder l.fn.grid l.grid;
      written : IsWritten l.value (Before (places l.taken) l.x-index) l.fn.grid.rows l.grid.rows;
    }
