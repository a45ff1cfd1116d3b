-- The first cells of the row are the new ones.
use Rattle.std.proofs.Common.{◌≡◌, ◌++◌, take, drop, set}
use Rattle.grid_base.specs.Table.{row, row_count, col_count}
use Rattle.grid_lines.proofs.set.set_row.Given as goal

abbrev pub invariant-loop-col : goal.invariant-loop-col
invariant-loop-col g l = record {
  rows : l.grid.rows ≡ set l.fn.grid.rows l.r (take l.col l.cells ++ drop l.col (row l.fn.grid.rows l.r));
  row_count : row_count l.grid.rows ≡ row_count l.fn.grid.rows;
  col_count : col_count l.grid.rows ≡ col_count l.fn.grid.rows;
  order : l.grid.order ≡ l.fn.grid.order;
}
