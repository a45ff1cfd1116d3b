use Rattle.std.proofs.Common.{rules, arith}
use Rattle.grid_base.proofs.Common.{common_steps}
use Rattle.grid_base.proofs.Lemmas.{swap_parts}
use Rattle.grid_base.proofs.flat.counted.swaps.swap_for_symmetry.Goals as goal

pub returns-clause-symmetry : goal.returns-clause-symmetry
returns-clause-symmetry = search rules

pub returns-clause-shift : goal.returns-clause-shift
returns-clause-shift = search rules

pub returns-clause-cells : goal.returns-clause-cells
returns-clause-cells g c = grind (arith, common_steps, swap_parts)
