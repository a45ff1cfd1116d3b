use Rattle.std.proofs.Common.{rules}
use Rattle.grid.proofs.grid.GridIndexMutTuple2UsizeUsize.index_mut.Goals as goal

pub returns : goal.returns
returns = search rules
