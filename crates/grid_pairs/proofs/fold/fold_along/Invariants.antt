use Rattle.std.proofs.Common.{◌≤◌, vec_capacity}
use Rattle.grid_base.proofs.Common.{row, row_count}
use Rattle.grid_pairs.specs.Folded.{AreFoldsOf}
use Rattle.grid_pairs.proofs.fold.fold_along.Given as goal

abbrev pub invariant-loop-r : goal.invariant-loop-r
invariant-loop-r g l = record {
  room : row_count l.board.rows ≤ vec_capacity l.folds;
  folds : AreFoldsOf (λ h s p z. goal.F-post g h s p z) l.f l.fn.init l.r (row l.board.rows) l.folds.items;
}
