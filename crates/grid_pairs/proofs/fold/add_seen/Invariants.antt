use Rattle.grid_base.proofs.Common.{row}
use Rattle.grid_pairs.specs.Folded.{FoldsMoreOf}
use Rattle.grid_pairs.proofs.fold.add_seen.Given as goal

abbrev pub invariant-loop-col : goal.invariant-loop-col
invariant-loop-col g l = FoldsMoreOf (λ h s p z. goal.F-post g h s p z) l.f l.col (row l.board.rows l.r) l.fn.folds l.folds
