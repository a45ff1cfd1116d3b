use Rattle.grid_pairs.specs.Answered.{Replaced}
use Rattle.grid_pairs.proofs.update.update_stored.Given as goal

abbrev pub invariant-loop-k : goal.invariant-loop-k
invariant-loop-k g l = Replaced (λ h p q z. goal.F-post g h p q z) l.f l.start l.k l.others l.fn.cells l.cells
