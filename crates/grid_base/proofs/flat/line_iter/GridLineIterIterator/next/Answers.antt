use Rattle.std.proofs.Common.{arith}
use Rattle.grid_base.proofs.Common.{common_steps}
use Rattle.grid_base.proofs.Lemmas.{backwards_first}
use Rattle.grid_base.proofs.flat.line_iter.GridLineIterIterator.next.Goals as goal

pub returns-clause-steps : goal.returns-clause-steps
returns-clause-steps g c = grind (arith, common_steps, backwards_first)
