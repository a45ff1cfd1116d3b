use Rattle.std.proofs.Common.{arith, refl}
use Rattle.grid_callers.proofs.WriteLemmas.{if_written, IsTable-two}
use Rattle.grid_callers.proofs.chains.written_by_rows.Goals as goal

pub returns-clause-rows : goal.returns-clause-rows
returns-clause-rows c = if_written _ 2 3 _ _ c.grid.result (omega arith) (IsTable-two _ _ refl (omega arith)) refl refl c.grid.ensures.made c.grid.ensures.cells
