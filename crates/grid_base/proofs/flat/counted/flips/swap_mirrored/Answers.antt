use Rattle.std.proofs.Common.{◌++◌, arith, length-append}
use Rattle.grid_base.proofs.Lemmas.{turning_more}
use Rattle.grid_base.proofs.flat.counted.flips.swap_mirrored.Goals as goal

pub loop-k-preserved : goal.loop-k-preserved
loop-k-preserved g c =
    let len = length-append c.args.front.now c.args.back.now in
    let more = turning_more _ _ _ _ _ (c.swap_for_symmetry.new.front ++ c.swap_for_symmetry.new.back) (omega arith) (omega arith) c.loop-k.invariant.run (grind arith) in
    grind (arith, more)
