use Rattle.std.proofs.Common.{take}
use Rattle.grid_base.proofs.Common.{row, row_count}
use Rattle.grid_pairs.specs.Folded.{AreFoldsOf}
use Rattle.grid_pairs.proofs.fold.fold_across.Given as goal

abbrev pub invariant-loop-c : goal.invariant-loop-c
invariant-loop-c g l = AreFoldsOf (λ h s p z. goal.F-post g h s p z) l.f l.fn.init (row_count l.board.rows) (λ r. take l.c (row l.board.rows r)) l.folds.items
