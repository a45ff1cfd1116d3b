-- The cells so far have moved.
use Rattle.std.proofs.Common.{◌≡◌, ◌≤◌, take, drop, vec_capacity}
use Rattle.std.specs.Vec.Iter.{into_iter_items}
use Rattle.grid_lines.proofs.rows.fill_row.Given as goal

abbrev pub invariant-loop : goal.invariant-loop
invariant-loop g l = record {
  row : l.row.items ≡ take l.counter (into_iter_items l.fn.cells);
  rest : into_iter_items l.cells ≡ drop l.counter (into_iter_items l.fn.cells);
  room : l.count ≤ vec_capacity l.row;
}
