use Rattle.std.proofs.Common.{ap, arith, length}
use Rattle.grid_base.proofs.Lemmas.{lines_in_order, lines_in_reverse}
use Rattle.grid_base.proofs.flat.line_iter.GridLineIter.none.Goals as goal

pub returns : goal.returns
returns g c = (c.iter.ensures.rest, lines_in_order _, lines_in_reverse _, omega (arith, ap length c.iter.ensures.rest))
