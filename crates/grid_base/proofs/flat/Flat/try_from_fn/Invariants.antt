use Rattle.std.proofs.Common.{◌≡◌, ◌≤◌, ◌+◌, ◌++◌, List, Ok, length, vec_len, ℕ, vec_capacity}
use Rattle.grid_base.proofs.Common.{AllZip, positions_of}
use Rattle.grid_base.proofs.flat.Flat.try_from_fn.Given as goal

abbrev pub invariant-loop-at : goal.invariant-loop-at
invariant-loop-at g l = record {
  can : (goal.iterator-loop-at g).can_next l.at-iterator;
  finite : (goal.iterator-loop-at g).is_finite l.at-iterator;
  done : List (ℕ × ℕ);
  split : done ++ l.at-iterator ≡ positions_of l.fn.layout;
  room : vec_len l.cells + length l.at-iterator ≤ vec_capacity l.cells;
  answers : AllZip (λ at y. goal.F-post g l.f at (Ok y)) done l.cells.items;
}
