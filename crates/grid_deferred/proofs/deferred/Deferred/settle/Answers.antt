use Rattle.std.proofs.Common.{rules}
use Rattle.grid_deferred.proofs.deferred.Deferred.settle.Goals as goal

pub returns-clause-rows : goal.returns-clause-rows
returns-clause-rows = search rules

pub returns-clause-order : goal.returns-clause-order
returns-clause-order = search rules
