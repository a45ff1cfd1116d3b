use Rattle.std.proofs.Common.{rules}
use Rattle.grid.proofs.convert.GridTryFromTuple2RefVecRefUsize.try_from.Goals as goal

pub returns : goal.returns
returns = search rules
