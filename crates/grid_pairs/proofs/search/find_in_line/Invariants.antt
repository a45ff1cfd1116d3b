use Rattle.std.proofs.Common.{ℕ, ◌<◌}
use Rattle.grid_pairs.specs.Found.{StandsIn}
use Rattle.grid_pairs.proofs.search.find_in_line.Given as goal

abbrev pub invariant-loop-col : goal.invariant-loop-col
invariant-loop-col g l = (c : ℕ) → c < l.col → StandsIn g.T.PartialEq.eq l.board.rows l.pattern.rows l.r c → ⊥
