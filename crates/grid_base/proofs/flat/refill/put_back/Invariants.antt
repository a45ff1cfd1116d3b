use Rattle.std.proofs.Common.{◌≡◌}
use Rattle.grid_base.proofs.Common.{SamePlaces, Filled}
use Rattle.core.specs.Mem.Slots.{Refills}
use Rattle.grid_base.specs.Refill.{PutBack}
use Rattle.grid_base.proofs.flat.refill.put_back.Given as goal

abbrev pub invariant-loop-at : goal.invariant-loop-at
invariant-loop-at g l = record {
  row : Refills l.fn.row l.row;
  room : SamePlaces l.fn.room l.room;
  held : l.room.items ≡ l.fn.room.items;
  waits : Filled l.room.filled l.at l.count;
  cells : PutBack l.at l.fn.room.items l.fn.row.items l.row.items;
}
