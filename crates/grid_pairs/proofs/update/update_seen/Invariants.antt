use Rattle.grid_base.proofs.Common.{row}
use Rattle.grid_pairs.specs.Answered.{Replaced}
use Rattle.grid_pairs.proofs.update.update_seen.Given as goal

abbrev pub invariant-loop-col : goal.invariant-loop-col
invariant-loop-col g l = Replaced (λ h p q z. goal.F-post g h p q z) l.f l.start l.col (row l.other.rows l.r) l.fn.cells l.cells
