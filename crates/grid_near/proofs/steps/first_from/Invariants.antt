use Rattle.std.proofs.Common.{◌≡◌}
use Rattle.grid_near.proofs.Common.{positions_from}
use Rattle.grid_near.proofs.steps.first_from.Given as goal

abbrev pub invariant-loop-k : goal.invariant-loop-k
invariant-loop-k l = positions_from l.size l.connectivity l.at l.from ≡ positions_from l.size l.connectivity l.at l.k
