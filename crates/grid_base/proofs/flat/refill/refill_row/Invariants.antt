use Rattle.std.proofs.Common.{◌≡◌, ◌<◌, ◌≤◌, get_or}
use Rattle.core.specs.Mem.Slots.{Refills}
use Rattle.grid_base.proofs.Common.{SamePlaces, Filled, ClonesAreEqual}
use Rattle.grid_base.proofs.flat.refill.refill_row.Given as goal

abbrev pub invariant-loop-at : goal.invariant-loop-at
invariant-loop-at g l = record {
  row : Refills l.fn.job.0 l.row;
  room : SamePlaces l.fn.room l.room;
  waits : Filled l.room.filled 0 l.at;
  held : (k : _) (d : _) → k < l.at → get_or l.room.items k d ≡ get_or l.fn.job.0.items k d;
  clones : (k : _) (d : _) → k < l.at → ClonesAreEqual g.T.Clone.is_clone → get_or l.row.items k d ≡ l.fn.job.1;
  rest : (k : _) (d : _) → l.at ≤ k → get_or l.row.items k d ≡ get_or l.fn.job.0.items k d;
}
