use Rattle.std.proofs.Common.{◌+◌, ◌-◌, ◌≤◌, vec_len, vec_capacity}
use Rattle.grid_base.proofs.Common.{AppendsEach}
use Rattle.grid_base.proofs.flat.ends.with_defaults.Given as goal

abbrev pub invariant-loop : goal.invariant-loop
invariant-loop g l = record {
  run : AppendsEach g.T.Default.is_default l.counter l.fn.cells.items l.cells.items;
  room : vec_len l.cells + (l.count - l.counter) ≤ vec_capacity l.cells;
}
