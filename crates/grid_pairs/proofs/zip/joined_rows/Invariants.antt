use Rattle.std.proofs.Common.{◌≤◌, ◌*◌, vec_capacity}
use Rattle.grid_base.proofs.Common.{row_count, col_count}
use Rattle.grid_pairs.specs.Answered.{RowsJoined}
use Rattle.grid_pairs.proofs.zip.joined_rows.Given as goal

abbrev pub invariant-loop-r : goal.invariant-loop-r
invariant-loop-r g l = record {
  room : row_count l.board.rows * col_count l.board.rows ≤ vec_capacity l.cells;
  joined : RowsJoined (λ h p q z. goal.F-post g h p q z) l.f l.r l.board.rows l.other.rows l.cells.items;
}
