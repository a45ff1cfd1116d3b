use Rattle.std.proofs.Common.{ℕ}
use Rattle.grid_paths.proofs.Common.{IsMarked}
use Rattle.grid_paths.proofs.Lemmas.{Before}
use Rattle.grid_paths.proofs.path.first_with.Given as goal

abbrev pub invariant-loop-near : goal.invariant-loop-near
invariant-loop-near g l = (b : ℕ × ℕ) → Before l.at l.near-index b → IsMarked l.steps.rows b l.count → ⊥
