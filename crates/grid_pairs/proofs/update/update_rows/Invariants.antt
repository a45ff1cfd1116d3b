use Rattle.grid_pairs.specs.Answered.{RowsReplaced}
use Rattle.grid_pairs.proofs.update.update_rows.Given as goal

abbrev pub invariant-loop-r : goal.invariant-loop-r
invariant-loop-r g l = RowsReplaced (λ h p q z. goal.F-post g h p q z) l.f l.r l.other.rows l.fn.cells l.cells
