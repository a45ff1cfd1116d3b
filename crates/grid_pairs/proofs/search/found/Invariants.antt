use Rattle.std.proofs.Common.{ℕ, ◌<◌}
use Rattle.grid_pairs.specs.Found.{StandsIn}
use Rattle.grid_pairs.proofs.search.found.Given as goal

abbrev pub invariant-loop-row : goal.invariant-loop-row
invariant-loop-row g l = (r c : ℕ) → r < l.row → StandsIn g.T.PartialEq.eq l.board.rows l.pattern.rows r c → ⊥
