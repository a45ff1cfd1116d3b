use Rattle.std.proofs.Common.{rules}
use Rattle.grid_base.proofs.words.Symmetry.flags.Goals as goal

pub returns-in-FlipCols : goal.returns-in-FlipCols
returns-in-FlipCols = search rules
