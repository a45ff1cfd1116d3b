use Rattle.std.proofs.Common.{◌∙◌, refl, arith}
use Rattle.grid_base.proofs.Lemmas.{three_more, three_all}
use Rattle.grid_base.proofs.flat.counted.shifts.swap_three_blocks.Goals as goal

pub loop-k-preserved : goal.loop-k-preserved
loop-k-preserved g c =
    let inv = c.loop-k.invariant in
    let one = c.swap_for_shift.ensures in
    let two = c.swap_for_shift-in-loop-k.ensures in
    let three = c.swap_for_shift-in-loop-k-2.ensures in
    record {
      run = three_more _ _ _ _ _ _ _ _ _ _ _ _ refl refl refl refl (omega arith) (omega arith) inv.run one.cells two.cells three.cells;
      symmetry = three.symmetry ∙ (two.symmetry ∙ (one.symmetry ∙ inv.symmetry));
      shift = omega arith;
    }

pub returns-clause-cells : goal.returns-clause-cells
returns-clause-cells g c = three_all _ _ _ _ _ c.loop-k.invariant.run (omega arith) (omega arith) (omega arith)
