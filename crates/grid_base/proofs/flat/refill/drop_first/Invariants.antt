use Rattle.grid_base.proofs.Common.{SamePlaces, Filled}
use Rattle.grid_base.proofs.flat.refill.drop_first.Given as goal

abbrev pub invariant-loop-at : goal.invariant-loop-at
invariant-loop-at g l = record {
  places : SamePlaces l.fn.room l.room;
  waits : Filled l.room.filled l.at l.count;
}
