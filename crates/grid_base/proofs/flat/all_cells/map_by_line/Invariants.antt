use Rattle.std.proofs.Common.{◌≡◌, ◌≤◌, ◌*◌, take, vec_len, zip, vec_capacity}
use Rattle.grid_base.proofs.Common.{AllZip, positions_of, lines_of, ReturnsAtCell}
use Rattle.grid_base.proofs.flat.all_cells.map_by_line.Given as goal

abbrev pub invariant-loop-line : goal.invariant-loop-line
invariant-loop-line g l = record {
  room : l.fn.layout.rows * l.fn.layout.cols ≤ vec_capacity l.made;
  passed : vec_len l.made ≡ l.line * (lines_of l.fn.layout).1;
  answers : AllZip (ReturnsAtCell (λ h at p y. goal.F-post g h at p y) l.f) (take (vec_len l.made) (zip (positions_of l.fn.layout) l.fn.cells)) l.made.items;
}
