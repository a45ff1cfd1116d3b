use Rattle.std.proofs.Common.{arith}
use Rattle.grid_base.proofs.Lemmas.{mirrored_below}
use Rattle.grid_base.proofs.flat.square.+swap_across.Goals as goal

pub loop-row-preserved : goal.loop-row-preserved
loop-row-preserved g t c =
    mirrored_below _ _ _ _ _ _ _ _ _ (omega (arith, c.loop-row.auto.row)) (omega arith) (omega arith) (omega arith) c.loop-row.invariant c.swap_row_across.ensures
