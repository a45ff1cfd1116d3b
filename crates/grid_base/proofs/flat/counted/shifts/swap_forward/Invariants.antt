use Rattle.std.proofs.Common.{◌≡◌, ◌-◌, ◌≤◌}
use Rattle.grid_base.proofs.Common.{HasShifted, swapped_forward}
use Rattle.grid_base.proofs.flat.counted.shifts.swap_forward.Given as goal

abbrev pub invariant-loop-cells : goal.invariant-loop-cells
invariant-loop-cells g l = record {
  run : l.cells ≡ swapped_forward l.start l.shift l.done l.fn.cells;
  within : l.done ≤ l.n;
  counted : HasShifted l.done l.fn.swaps l.swaps;
}

abbrev pub decreases-loop-cells : goal.decreases-loop-cells
decreases-loop-cells g l = l.n - l.done
