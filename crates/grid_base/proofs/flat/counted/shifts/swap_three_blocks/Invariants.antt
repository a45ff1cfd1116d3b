use Rattle.std.proofs.Common.{◌≡◌, ◌+◌, ◌*◌}
use Rattle.grid_base.proofs.Lemmas.{ThreeMoved}
use Rattle.grid_base.proofs.flat.counted.shifts.swap_three_blocks.Given as goal

abbrev pub invariant-loop-k : goal.invariant-loop-k
invariant-loop-k g l = record {
  run : ThreeMoved l.start l.shift l.k l.fn.cells l.cells;
  symmetry : l.swaps.for_symmetry ≡ l.fn.swaps.for_symmetry;
  shift : l.swaps.for_shift ≡ l.fn.swaps.for_shift + 3 * l.k;
}
