use Rattle.std.proofs.Common.{◌≡◌, ◌+◌, ◌*◌, ◌≤◌, min}
use Rattle.grid_base.proofs.Lemmas.{Weaving}
use Rattle.grid_base.proofs.flat.groups.weave_in_turn.Given as goal

abbrev pub invariant-loop-line : goal.invariant-loop-line
invariant-loop-line g l = record {
  run : Weaving l.groups.lines l.groups.width l.groups.at l.groups.count l.line l.end l.fn.cells l.cells;
  within : l.line ≤ l.groups.lines;
  place : l.end ≡ min (l.groups.at + l.line * l.groups.width) (l.groups.lines * l.groups.width);
}

abbrev pub decreases-loop-line : goal.decreases-loop-line
decreases-loop-line g l = l.line
