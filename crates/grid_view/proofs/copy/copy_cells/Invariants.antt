use Rattle.std.proofs.Common.{◌≡◌, length, take}
use Rattle.grid_base.specs.Table.{row}
use Rattle.grid_view.proofs.copy.copy_cells.Given as goal

abbrev pub invariant-loop-col : goal.invariant-loop-col
invariant-loop-col g l = record {
  len : length l.to ≡ length l.fn.to;
  copied : take l.col l.to ≡ take l.col (row l.view.rows l.r);
}
