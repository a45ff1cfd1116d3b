use Rattle.std.proofs.Common.{arith}
use Rattle.grid_base.proofs.Common.{common_steps}
use Rattle.grid_base.proofs.Lemmas.{placed_cells}
use Rattle.grid_base.proofs.flat.indexed.IndexedIterIterator.next.Goals as goal

pub returns-in_err-cell-clause-steps : goal.returns-in_err-cell-clause-steps
returns-in_err-cell-clause-steps g c = grind (arith, common_steps, placed_cells)
