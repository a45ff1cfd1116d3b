use Rattle.std.proofs.Common.{rules}
use Rattle.grid_deferred.proofs.deferred.Deferred.get.Goals as goal

pub returns : goal.returns
returns = search rules
