use Rattle.std.proofs.Common.{◌≡◌, ◌≤◌, All, vec_len, vec_capacity}
use Rattle.grid.proofs.grid.Grid.new_with_order.Given as goal

abbrev pub invariant-loop : goal.invariant-loop
invariant-loop g l = record {
  len : vec_len l.cells ≡ l.counter;
  room : l.count ≤ vec_capacity l.cells;
  defaults : All g.T.Default.is_default l.cells.items;
}
