use Rattle.std.proofs.Common.{arith, refl}
use Rattle.grid_callers.proofs.WriteLemmas.{if_written, IsTable-two}
use Rattle.grid_callers.proofs.chains.written_by_columns.Goals as goal

pub returns-clause-rows : goal.returns-clause-rows
returns-clause-rows c = if_written _ 2 3 _ _ c.grid_cm.result (omega arith) (IsTable-two _ _ refl (omega arith)) refl refl c.grid_cm.ensures.made c.grid_cm.ensures.cells
