use Rattle.grid_pairs.specs.Folded.{FoldsMoreOf}
use Rattle.grid_pairs.proofs.fold.add_stored.Given as goal

abbrev pub invariant-loop-k : goal.invariant-loop-k
invariant-loop-k g l = FoldsMoreOf (λ h s p z. goal.F-post g h s p z) l.f l.k l.cells l.fn.folds l.folds
