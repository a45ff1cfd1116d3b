use Rattle.std.proofs.Common.{◌≡◌, ◌≤◌, ◌+◌, ◌++◌, length, vec_len, vec_capacity}
use Rattle.grid_view.proofs.copy.with_clones.Given as goal

abbrev pub invariant-loop-cell : goal.invariant-loop-cell
invariant-loop-cell g l = record {
  can : (goal.iterator-loop-cell g).can_next l.cell-iterator;
  finite : (goal.iterator-loop-cell g).is_finite l.cell-iterator;
  cells : l.copies.items ++ l.cell-iterator ≡ l.fn.copies.items ++ l.fn.cells;
  room : vec_len l.copies + length l.cell-iterator ≤ vec_capacity l.copies;
}
