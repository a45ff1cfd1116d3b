use Rattle.grid_pairs.specs.Answered.{ColsReplaced}
use Rattle.grid_pairs.proofs.update.update_cols.Given as goal

abbrev pub invariant-loop-c : goal.invariant-loop-c
invariant-loop-c g l = ColsReplaced (λ h p q z. goal.F-post g h p q z) l.f l.c l.other.rows l.fn.cells l.cells
