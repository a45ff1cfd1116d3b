use Rattle.std.proofs.Common.{rules}
use Rattle.grid_deferred.proofs.deferred.Deferred.iter_row.Goals as goal

pub returns-clause-rest : goal.returns-clause-rest
returns-clause-rest = search rules
