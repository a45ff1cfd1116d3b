use Rattle.std.proofs.Common.{◌≡◌, ℕ, ◌+◌, ◌<◌, ◌≤◌}
use Rattle.grid_paths.proofs.Common.{IsOpen, alike}
use Rattle.grid_paths.proofs.region.other_in_row.Given as goal

abbrev pub invariant-loop-i : goal.invariant-loop-i
invariant-loop-i g l =
    (col k : ℕ) → k < l.i → (k ≤ l.from → col + k ≡ l.from) → (l.from < k → col ≡ k)
    → IsOpen (alike g.T.PartialEq.eq l.first l.grid.rows) (l.row, col)
