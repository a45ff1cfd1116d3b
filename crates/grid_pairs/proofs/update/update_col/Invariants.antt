use Rattle.grid_pairs.specs.Answered.{ColReplaced}
use Rattle.grid_pairs.proofs.update.update_col.Given as goal

abbrev pub invariant-loop-r : goal.invariant-loop-r
invariant-loop-r g l = ColReplaced (λ h p q z. goal.F-post g h p q z) l.f l.r l.fn.c l.other.rows l.fn.cells l.cells
