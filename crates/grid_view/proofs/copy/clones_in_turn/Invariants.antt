use Rattle.std.proofs.Common.{◌≡◌, ◌≤◌, take, length, vec_capacity}
use Rattle.grid_base.specs.Table.{concat_rows}
use Rattle.grid_view.proofs.copy.clones_in_turn.Given as goal

abbrev pub invariant-loop-r : goal.invariant-loop-r
invariant-loop-r g l = record {
  cells : l.copies.items ≡ concat_rows (take l.r l.view.rows);
  room : length (concat_rows l.view.rows) ≤ vec_capacity l.copies;
}
