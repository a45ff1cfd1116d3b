use Rattle.std.proofs.Common.{◌+◌, ◌-◌, ◌≤◌, vec_len, vec_capacity}
use Rattle.grid_base.proofs.Lemmas.{Leaving}
use Rattle.grid_base.proofs.flat.ends.without_tail.Given as goal

abbrev pub invariant-loop : goal.invariant-loop
invariant-loop g l = record {
  run : Leaving (l.counter - l.at) l.fn.cells.items l.cells.items l.fn.to.0.items l.into.items;
  room : vec_len l.into + (vec_len l.fn.cells - l.counter) ≤ vec_capacity l.into;
}
