use Rattle.std.proofs.Common.{ap, arith, length}
use Rattle.grid_base.proofs.Lemmas.{length-line_cells, lines_in_order, lines_in_reverse}
use Rattle.grid_base.proofs.flat.line_iter.GridLineIter.over.Goals as goal

pub invariant_of-result : goal.invariant_of-result
invariant_of-result g c =
    omega (arith, ap length c.over.ensures, length-line_cells c.args.start c.args.count c.args.stride c.args.cells.now (λ _. c.requires.within) c.args.backwards, c.ranges.count.fits)

pub returns : goal.returns
returns g c = (c.over.ensures, lines_in_order _, lines_in_reverse _, invariant_of-result g c)
