use Rattle.std.proofs.Common.{take}
use Rattle.grid_pairs.specs.Folded.{FoldsOver}
use Rattle.grid_pairs.proofs.fold.fold_stored.Given as goal

abbrev pub invariant-loop-k : goal.invariant-loop-k
invariant-loop-k g l = FoldsOver (λ h s p z. goal.F-post g h s p z) l.f l.fn.init (take l.k l.cells) l.folded
