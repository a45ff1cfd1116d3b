use Rattle.std.proofs.Common.{◌≤◌, length}
use Rattle.grid_base.proofs.ApartLemmas.{Passing}
use Rattle.grid_base.proofs.flat.rotations.exchange_apart.Given as goal

abbrev pub invariant-loop-end : goal.invariant-loop-end
invariant-loop-end g l = record {
  run : Passing l.count l.end l.fn.cells l.fn.line l.cells l.line;
  from : l.start ≤ l.end;
  within : l.end ≤ length l.fn.cells;
}

abbrev pub decreases-loop-end : goal.decreases-loop-end
decreases-loop-end g l = l.end
