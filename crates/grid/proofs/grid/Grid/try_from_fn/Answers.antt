use Rattle.std.proofs.Common.{rules}
use Rattle.grid.proofs.grid.Grid.try_from_fn.Goals as goal

pub returns-clause-made : goal.returns-clause-made
returns-clause-made g c = search rules

pub returns-clause-cells : goal.returns-clause-cells
returns-clause-cells g c = search rules

pub returns-clause-failed : goal.returns-clause-failed
returns-clause-failed g c = search rules

pub returns-clause-fails : goal.returns-clause-fails
returns-clause-fails g c = search rules
