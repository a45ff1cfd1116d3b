use Rattle.std.proofs.Common.{◌≡◌, ◌+◌, ◌*◌, ◌<◌, min}
use Rattle.grid_base.proofs.Lemmas.{Unweaving}
use Rattle.grid_base.proofs.flat.groups.unweave_in_turn.Given as goal

abbrev pub invariant-loop-line : goal.invariant-loop-line
invariant-loop-line g l = record {
  run : Unweaving l.groups.lines l.groups.width l.groups.at l.groups.count l.line l.start l.fn.cells l.cells;
  place : (0 < l.groups.lines → l.start ≡ min (l.groups.at + l.line * l.groups.width) (l.groups.lines * l.groups.width));
}
