use Rattle.std.proofs.Common.{take}
use Rattle.grid_base.proofs.Common.{row}
use Rattle.grid_pairs.specs.Folded.{FoldsOver}
use Rattle.grid_pairs.proofs.fold.fold_seen.Given as goal

abbrev pub invariant-loop-col : goal.invariant-loop-col
invariant-loop-col g l = FoldsOver (λ h s p z. goal.F-post g h s p z) l.f l.fn.init (take l.col (row l.board.rows l.r)) l.folded
