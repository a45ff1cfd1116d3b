use Rattle.std.proofs.Common.{◌≤◌, ◌+◌, ◌*◌, vec_capacity}
use Rattle.grid.proofs.Lemmas.{Emptying}
use Rattle.grid.proofs.grid.Grid.from_arrays.Given as goal

abbrev pub invariant-loop-i : goal.invariant-loop-i
invariant-loop-i g l = record {
  slots : Emptying l.order g.row.R g.row.C (l.i * l.len) l.fn.cells l.cells l.taken.items;
  room : l.count ≤ vec_capacity l.taken;
}

abbrev pub invariant-loop-j : goal.invariant-loop-j
invariant-loop-j g l = record {
  slots : Emptying l.order g.row.R g.row.C (l.i * l.len + l.j) l.fn.cells l.cells l.taken.items;
  room : l.count ≤ vec_capacity l.taken;
}
