use Rattle.std.proofs.Common.{◌≡◌, ◌≤◌, ◌+◌, length}
use Rattle.grid_near.proofs.Common.{positions_from}
use Rattle.grid_near.proofs.steps.count_from.Given as goal

abbrev pub invariant-loop-k : goal.invariant-loop-k
invariant-loop-k l = record {
  counted : l.count + length (positions_from l.size l.connectivity l.at l.k) ≡ length (positions_from l.size l.connectivity l.at l.from);
  below : l.count ≤ l.k;
}
