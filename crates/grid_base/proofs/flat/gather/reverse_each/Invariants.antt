use Rattle.std.proofs.Common.{[], reverse}
use Rattle.grid_base.proofs.Common.{items_of_each}
use Rattle.grid_base.proofs.Lemmas.{Passed}
use Rattle.grid_base.proofs.flat.gather.reverse_each.Given as goal

abbrev pub invariant-loop-line : goal.invariant-loop-line
invariant-loop-line g l = Passed (λ r. []) reverse l.line-index (items_of_each l.initial.lines) (items_of_each l.lines) [] []
