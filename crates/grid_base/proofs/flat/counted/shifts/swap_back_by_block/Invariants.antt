use Rattle.std.proofs.Common.{◌≡◌, ◌+◌, ◌-◌, ◌≤◌}
use Rattle.grid_base.proofs.Common.{swapped_back}
use Rattle.grid_base.proofs.flat.counted.shifts.swap_back_by_block.Given as goal

abbrev pub invariant-loop-left : goal.invariant-loop-left
invariant-loop-left g l = record {
  rest : swapped_back l.start l.shift l.left l.cells ≡ swapped_back l.start l.shift l.n l.fn.cells;
  within : l.left ≤ l.n;
  symmetry : l.swaps.for_symmetry ≡ l.fn.swaps.for_symmetry;
  shift : l.swaps.for_shift + l.left ≡ l.fn.swaps.for_shift + l.n;
}

abbrev pub decreases-loop-left : goal.decreases-loop-left
decreases-loop-left g l = l.left

abbrev pub invariant-loop-k : goal.invariant-loop-k
invariant-loop-k g l = record {
  rest : swapped_back l.start l.shift (l.left - l.k) l.cells ≡ swapped_back l.start l.shift l.n l.fn.cells;
  symmetry : l.swaps.for_symmetry ≡ l.fn.swaps.for_symmetry;
  shift : l.swaps.for_shift + (l.left - l.k) ≡ l.fn.swaps.for_shift + l.n;
}
