use Rattle.std.proofs.Common.{length, ap, arith}
use Rattle.grid_base.proofs.Lemmas.{length-places}
use Rattle.grid_base.proofs.flat.Flat.indexed_iter.Goals as goal

pub invariant_of-result : goal.invariant_of-result
invariant_of-result g c =
    omega (arith, ap length c.new.ensures, length-places c.args.layout.order c.args.layout.rows c.args.layout.cols c.args.layout.size, c.requires, ap length c.iter.ensures.rest, ap length c.as_slice.ensures.value, ap length c.self.view_is)
