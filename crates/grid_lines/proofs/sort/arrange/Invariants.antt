-- The rows before i are as they are wanted.
use Rattle.std.proofs.Common.{◌≡◌, []}
use Rattle.grid_base.specs.Table.{row_count, col_count}
use Rattle.grid_lines.proofs.PlacingLemmas.{IsNumbering, Placing}
use Rattle.grid_lines.proofs.sort.arrange.Given as goal

abbrev pub invariant-loop-i : goal.invariant-loop-i
invariant-loop-i g l = record {
  numbering : IsNumbering (row_count l.fn.grid.rows) l.wanted;
  placing : Placing l.fn.grid.rows [] l.wanted l.i l.grid.rows l.holds l.places;
  col_count : col_count l.grid.rows ≡ col_count l.fn.grid.rows;
  order : l.grid.order ≡ l.fn.grid.order;
}
