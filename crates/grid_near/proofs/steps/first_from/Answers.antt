use Rattle.std.proofs.Common.{◌∙◌, ◌<◌, sym, arith}
use Rattle.grid_near.proofs.Common.{step_count}
use Rattle.grid_near.proofs.Lemmas.{there_at, no_position}
use Rattle.grid_near.proofs.steps.first_from.Goals as goal

pub loop-k-preserved : goal.loop-k-preserved
loop-k-preserved c =
    let a = c.args in
    let lt : c.loop-k.k < step_count a.connectivity = omega arith in
    c.loop-k.invariant ∙ no_position a.size a.at a.connectivity c.loop-k.k lt (λ h. cc (c.if-is_there.false, c.is_there.ensures.1 (there_at a.size a.at _ _ _ _ (sym c.offset-i.ensures.row) (sym c.offset-i.ensures.col) h)))
