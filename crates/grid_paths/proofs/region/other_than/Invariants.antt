use Rattle.std.proofs.Common.{◌≡◌, ℕ, ◌+◌, ◌<◌, ◌≤◌}
use Rattle.grid_paths.proofs.Common.{InRange, IsOpen, alike}
use Rattle.grid_paths.proofs.region.other_than.Given as goal

abbrev pub invariant-loop-i : goal.invariant-loop-i
invariant-loop-i g l =
    (a : ℕ × ℕ) (k : ℕ) → k < l.i → (k ≤ l.at.0 → a.0 + k ≡ l.at.0) → (l.at.0 < k → a.0 ≡ k)
    → InRange l.grid.rows a.0 a.1 → IsOpen (alike g.T.PartialEq.eq l.first l.grid.rows) a
