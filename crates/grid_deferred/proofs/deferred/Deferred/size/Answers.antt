use Rattle.std.proofs.Common.{rules}
use Rattle.grid_deferred.proofs.deferred.Deferred.size.Goals as goal

pub returns-clause-size : goal.returns-clause-size
returns-clause-size = search rules

pub returns-clause-table : goal.returns-clause-table
returns-clause-table = search rules
