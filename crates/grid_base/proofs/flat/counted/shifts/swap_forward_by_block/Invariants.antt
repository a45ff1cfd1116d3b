use Rattle.std.proofs.Common.{◌≡◌, ◌-◌, ◌≤◌}
use Rattle.grid_base.proofs.Common.{HasShifted, swapped_forward}
use Rattle.grid_base.proofs.flat.counted.shifts.swap_forward_by_block.Given as goal

abbrev pub invariant-loop-done : goal.invariant-loop-done
invariant-loop-done g l = record {
  run : l.cells ≡ swapped_forward l.start l.shift l.done l.fn.cells;
  within : l.done ≤ l.n;
  counted : HasShifted l.done l.fn.swaps l.swaps;
}

abbrev pub decreases-loop-done : goal.decreases-loop-done
decreases-loop-done g l = l.n - l.done

abbrev pub invariant-loop-k : goal.invariant-loop-k
invariant-loop-k g l = record {
  run : l.cells ≡ swapped_forward l.start l.shift l.k l.fn.cells;
  counted : HasShifted l.k l.fn.swaps l.swaps;
}
