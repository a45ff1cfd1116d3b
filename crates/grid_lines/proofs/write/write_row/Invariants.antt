-- The items so far are over the first cells of the row.
use Rattle.std.proofs.Common.{◌≡◌}
use Rattle.grid_base.specs.Table.{row_count, col_count}
use Rattle.grid_lines.proofs.WrittenLemmas.{WrittenSoFar}
use Rattle.grid_lines.proofs.write.write_row.Given as goal

abbrev pub invariant-loop-col : goal.invariant-loop-col
invariant-loop-col g l = record {
  can : g.I.Iterator.can_next l.items;
  written : WrittenSoFar g.I.Iterator.next_gives l.fn.items l.fn.grid.rows l.r l.items l.col l.grid.rows;
  row_count : row_count l.grid.rows ≡ row_count l.fn.grid.rows;
  col_count : col_count l.grid.rows ≡ col_count l.fn.grid.rows;
  order : l.grid.order ≡ l.fn.grid.order;
}
