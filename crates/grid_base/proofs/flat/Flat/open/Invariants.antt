use Rattle.std.proofs.Common.{◌≡◌, ◌+◌, ◌*◌, ◌≤◌, min}
use Rattle.grid_base.proofs.Lemmas.{spread, Opening}
use Rattle.grid_base.proofs.flat.Flat.open.Given as goal

abbrev pub invariant-loop-line : goal.invariant-loop-line
invariant-loop-line g l = record {
  run : Opening (spread l.groups.width l.groups.at l.groups.count) (l.groups.lines * l.groups.width) l.end l.fn.self l.cells;
  within : l.line ≤ l.groups.lines;
  place : l.end ≡ min (l.groups.at + l.line * l.groups.width) (l.groups.lines * l.groups.width);
  symmetry : l.swaps.for_symmetry ≡ 0;
  shift : l.swaps.for_shift + l.end ≡ l.groups.lines * l.groups.width;
}

abbrev pub decreases-loop-line : goal.decreases-loop-line
decreases-loop-line g l = l.line
