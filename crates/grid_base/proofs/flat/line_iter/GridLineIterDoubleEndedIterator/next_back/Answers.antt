use Rattle.std.proofs.Common.{arith}
use Rattle.grid_base.proofs.Common.{common_steps}
use Rattle.grid_base.proofs.Lemmas.{backwards_last}
use Rattle.grid_base.proofs.flat.line_iter.GridLineIterDoubleEndedIterator.next_back.Goals as goal

pub returns-clause-steps : goal.returns-clause-steps
returns-clause-steps g c = grind (arith, common_steps, backwards_last)
