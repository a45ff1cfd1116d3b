use Rattle.grid_callers.proofs.recursion.+outcome.Given as goal

abbrev pub decreases-outcome : goal.decreases-outcome
decreases-outcome l = l.left
