use Rattle.std.proofs.Common.{◌≡◌, ◌+◌, ◌++◌, ℕ, List, length, zip, take, drop}
use Rattle.grid_base.proofs.Common.{AllZip, positions_of, ReturnsAtCell}
use Rattle.grid_base.proofs.flat.all_cells.update_in_turn.Given as goal

abbrev pub invariant-loop-cell : goal.invariant-loop-cell
invariant-loop-cell g l = record {
  done : List ((ℕ × ℕ) × _);
  split : done ++ zip l.left (drop l.cell-index l.cells) ≡ zip (positions_of l.fn.layout) l.initial.cells;
  positions_left : l.cell-index + length l.left ≡ length l.initial.cells;
  answers : AllZip (ReturnsAtCell (λ h at p y. goal.F-post g h at p y) l.f) done (take l.cell-index l.cells);
}
