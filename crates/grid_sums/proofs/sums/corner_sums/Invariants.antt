use Rattle.std.proofs.Common.{◌≡◌, ℕ, ◌+◌, ◌*◌, ◌<◌, length, vec_capacity, pos, get_or}
use Rattle.grid_base.proofs.Common.{row_count, col_count}
use Rattle.grid_sums.specs.Corners.{RowsSummed}
use Rattle.grid_sums.proofs.sums.corner_sums.Given as goal

abbrev pub invariant-loop : goal.invariant-loop
invariant-loop g l = record {
  room : vec_capacity l.sums ≡ (row_count l.board.rows + 1) * (col_count l.board.rows + 1);
  count : length l.sums.items ≡ l.counter;
  zero : (k : ℕ) → k < length l.sums.items → get_or l.sums.items k (pos 0) ≡ pos 0;
}

abbrev pub invariant-loop-row : goal.invariant-loop-row
invariant-loop-row g l = record {
  room : vec_capacity l.sums ≡ (row_count l.board.rows + 1) * (col_count l.board.rows + 1);
  summed : RowsSummed (λ h p z. goal.F-post g h p z) l.f l.row l.board.rows l.sums.items;
}
