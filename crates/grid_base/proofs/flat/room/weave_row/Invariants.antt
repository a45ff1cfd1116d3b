use Rattle.std.proofs.Common.{◌≡◌, ◌+◌, ◌*◌, ◌≤◌, min}
use Rattle.grid_base.proofs.Common.{SamePlaces, Filled}
use Rattle.grid_base.proofs.Lemmas.{Weaving, with_waiting}
use Rattle.grid_base.proofs.flat.room.weave_row.Given as goal

abbrev pub invariant-loop-line : goal.invariant-loop-line
invariant-loop-line g l = record {
  run : Weaving l.groups.lines l.groups.width l.groups.at l.groups.count l.line l.end l.fn.job.0.items (with_waiting l.row.items l.room.items l.end (l.line * l.groups.count));
  front : Filled l.row.filled 0 l.end;
  back : Filled l.row.filled (l.end + l.line * l.groups.count) l.row.len;
  waits : Filled l.room.filled 0 (l.line * l.groups.count);
  row : SamePlaces l.fn.job.0 l.row;
  room : SamePlaces l.fn.room l.room;
  within : l.line ≤ l.groups.lines;
  place : l.end ≡ min (l.groups.at + l.line * l.groups.width) (l.groups.lines * l.groups.width);
}

abbrev pub decreases-loop-line : goal.decreases-loop-line
decreases-loop-line g l = l.line
