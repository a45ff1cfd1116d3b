use Rattle.std.proofs.Common.{◌≡◌, ◌+◌, take, vec_len, vec_capacity}
use Rattle.grid_base.proofs.Common.{AllZip, positions_of}
use Rattle.grid_base.proofs.flat.all_cells.push_line.Given as goal

abbrev pub invariant-loop-k : goal.invariant-loop-k
invariant-loop-k g l = record {
  room : vec_capacity l.cells ≡ vec_capacity l.initial.cells;
  passed : vec_len l.cells ≡ vec_len l.initial.cells + l.k;
  answers : AllZip (λ at y. goal.F-post g l.f at y) (take (vec_len l.cells) (positions_of l.fn.layout)) l.cells.items;
}
