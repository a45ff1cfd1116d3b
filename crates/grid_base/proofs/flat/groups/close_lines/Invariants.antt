use Rattle.std.proofs.Common.{◌≡◌, ◌+◌, ◌*◌, ◌<◌, min}
use Rattle.grid_base.proofs.Lemmas.{spread, Closing}
use Rattle.grid_base.proofs.flat.groups.close_lines.Given as goal

abbrev pub invariant-loop-line : goal.invariant-loop-line
invariant-loop-line g l = record {
  run : Closing (spread l.groups.width l.groups.at l.groups.count) (l.groups.lines * l.groups.width) l.start l.fn.cells l.cells;
  place : (0 < l.groups.lines → l.start ≡ min (l.groups.at + l.line * l.groups.width) (l.groups.lines * l.groups.width));
  none : (l.line ≡ 0 → l.start ≡ l.groups.at);
  symmetry : l.swaps.for_symmetry ≡ 0;
  shift : l.groups.at + l.swaps.for_shift ≡ l.start;
}
