use Rattle.std.proofs.Common.{◌≡◌, ◌≤◌, ◌+◌, ◌++◌, ℕ, List, length, vec_len, zip, drop, vec_capacity}
use Rattle.grid_base.proofs.Common.{AllZip, positions_of, ReturnsAtCell}
use Rattle.grid_base.proofs.flat.all_cells.map_in_turn.Given as goal

abbrev pub invariant-loop-cell : goal.invariant-loop-cell
invariant-loop-cell g l = record {
  done : List ((ℕ × ℕ) × _);
  split : done ++ zip l.left (drop l.cell-index l.fn.cells) ≡ zip (positions_of l.fn.layout) l.fn.cells;
  positions_left : l.cell-index + length l.left ≡ length l.fn.cells;
  count : vec_len l.made ≡ l.cell-index;
  room : length l.fn.cells ≤ vec_capacity l.made;
  answers : AllZip (ReturnsAtCell (λ h at p y. goal.F-post g h at p y) l.f) done l.made.items;
}
