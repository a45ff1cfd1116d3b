use Rattle.std.proofs.Common.{rules}
use Rattle.grid_base.proofs.flat.Flat.close_up.Goals as goal

pub returns-clause-shift : goal.returns-clause-shift
returns-clause-shift = search rules
