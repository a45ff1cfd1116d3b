use Rattle.std.proofs.Common.{rules}
use Rattle.grid_deferred.proofs.deferred.Deferred.release.Goals as goal

pub returns-clause-base : goal.returns-clause-base
returns-clause-base = search rules
