use Rattle.std.proofs.Common.{◌≡◌, vec_capacity}
use Rattle.grid_sums.specs.Corners.{RowSummed}
use Rattle.grid_sums.proofs.sums.push_row.Given as goal

abbrev pub invariant-loop-col : goal.invariant-loop-col
invariant-loop-col g l = record {
  room : vec_capacity l.sums ≡ vec_capacity l.fn.sums;
  summed : RowSummed (λ h p z. goal.F-post g h p z) l.f l.row l.board.rows l.fn.sums.items l.col l.sum l.sums.items;
}
