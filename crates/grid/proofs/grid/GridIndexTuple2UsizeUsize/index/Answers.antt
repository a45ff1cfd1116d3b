use Rattle.std.proofs.Common.{rules}
use Rattle.grid.proofs.grid.GridIndexTuple2UsizeUsize.index.Goals as goal

pub returns : goal.returns
returns = search rules
