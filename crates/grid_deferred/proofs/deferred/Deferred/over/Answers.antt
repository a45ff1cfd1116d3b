use Rattle.std.proofs.Common.{rules}
use Rattle.grid_deferred.proofs.deferred.Deferred.over.Goals as goal

pub returns-clause-pending : goal.returns-clause-pending
returns-clause-pending = search rules
