use Rattle.std.proofs.Common.{take}
use Rattle.grid_pairs.specs.Folded.{FoldsOverRows}
use Rattle.grid_pairs.proofs.fold.fold_view.Given as goal

abbrev pub invariant-loop-r : goal.invariant-loop-r
invariant-loop-r g l = FoldsOverRows (λ h s p z. goal.F-post g h s p z) l.f l.fn.init (take l.r l.board.rows) l.folded
