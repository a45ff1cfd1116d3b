-- The indices of the range.
use Rattle.std.proofs.Common.{refl, arith}
use Rattle.std.proofs.lemmas.Iterator.{items_from_collect, YieldsList-from_range}
use Rattle.grid_lines.proofs.indices.row_indices.Goals as goal

pub returns : goal.returns
returns g c = items_from_collect _ c.collect.ensures.ran (YieldsList-from_range 0 _ _ refl (omega arith))
