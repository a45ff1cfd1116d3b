use Rattle.std.proofs.Common.{rules}
use Rattle.grid_base.proofs.words.Symmetry.of.Goals as goal

pub returns-in-RotateLeft : goal.returns-in-RotateLeft
returns-in-RotateLeft = search rules
