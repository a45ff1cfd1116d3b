use Rattle.std.proofs.Common.{rules}
use Rattle.grid.proofs.grid.Grid.new.Goals as goal

pub returns-clause-made : goal.returns-clause-made
returns-clause-made g c = search rules

pub returns-clause-defaults : goal.returns-clause-defaults
returns-clause-defaults g c = search rules

pub returns-clause-fails : goal.returns-clause-fails
returns-clause-fails g c = search rules
