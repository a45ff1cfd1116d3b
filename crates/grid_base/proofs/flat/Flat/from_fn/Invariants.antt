use Rattle.std.proofs.Common.{◌≡◌, ◌≤◌, ◌*◌, take, vec_len, vec_capacity}
use Rattle.grid_base.proofs.Common.{AllZip, positions_of, lines_of}
use Rattle.grid_base.proofs.flat.Flat.from_fn.Given as goal

abbrev pub invariant-loop-line : goal.invariant-loop-line
invariant-loop-line g l = record {
  room : l.fn.layout.rows * l.fn.layout.cols ≤ vec_capacity l.cells;
  passed : vec_len l.cells ≡ l.line * (lines_of l.fn.layout).1;
  answers : AllZip (λ at y. goal.F-post g l.f at y) (take (vec_len l.cells) (positions_of l.fn.layout)) l.cells.items;
}
