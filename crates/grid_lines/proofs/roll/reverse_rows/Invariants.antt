-- The outer rows of the part have changed places.
use Rattle.std.proofs.Common.{◌≡◌}
use Rattle.grid_base.specs.Table.{row_count, col_count}
use Rattle.grid_base.proofs.PartLemmas.{Turning}
use Rattle.grid_lines.proofs.roll.reverse_rows.Given as goal

abbrev pub invariant-loop-i : goal.invariant-loop-i
invariant-loop-i g l = record {
  turning : Turning l.start l.n l.i l.fn.grid.rows l.grid.rows;
  row_count : row_count l.grid.rows ≡ row_count l.fn.grid.rows;
  col_count : col_count l.grid.rows ≡ col_count l.fn.grid.rows;
  order : l.grid.order ≡ l.fn.grid.order;
}
