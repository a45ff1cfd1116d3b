use Rattle.std.proofs.Common.{◌<◌, ◌/◌, ◌%◌, sym, ap, length, arith}
use Rattle.grid_near.proofs.Common.{step_count, box, IsThere}
use Rattle.grid_near.proofs.Lemmas.{there_at, position_counted, no_position, no_positions}
use Rattle.grid_near.proofs.steps.count_from.Goals as goal
use Rattle.grid_near.proofs.steps.count_from.Goals.{then-is_there, else-is_there}

pub loop-k-preserved : goal.loop-k-preserved
loop-k-preserved c =
    let a = c.args in
    let k = c.loop-k.k in
    let lt : k < step_count a.connectivity = omega arith in
    let row = c.offset-i.ensures.row in
    let col = c.offset-i.ensures.col in
    elim c.if-is_there.branch [
      | then-is_there w ↦
          let one = position_counted a.size a.at a.connectivity k lt (there_at a.size a.at _ _ _ _ row col (c.is_there.ensures.0 w.if-is_there.true)) in
          record { counted = omega (arith, one, w.count-is, c.loop-k.invariant.counted); below = omega (arith, w.count-is, c.loop-k.invariant.below) }
      | else-is_there w ↦
          let none : IsThere a.size a.at (box a.connectivity k / 3) (box a.connectivity k % 3) → ⊥ = λ h. cc (w.if-is_there.false, c.is_there.ensures.1 (there_at a.size a.at _ _ _ _ (sym row) (sym col) h)) in
          let same = ap length (no_position a.size a.at a.connectivity k lt none) in
          record { counted = omega (arith, same, w.count-is, c.loop-k.invariant.counted); below = omega (arith, w.count-is, c.loop-k.invariant.below) }
    ]

pub returns : goal.returns
returns c = omega (arith, c.loop-k.invariant.counted, no_positions c.args.size c.args.at c.args.connectivity c.loop-k.k (omega arith))
