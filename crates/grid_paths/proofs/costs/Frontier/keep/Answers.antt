use Rattle.std.proofs.Common.{arith}
use Rattle.grid_paths.proofs.costs.Frontier.keep.Goals as goal

pub of_sum-requires : goal.of_sum-requires
of_sum-requires g c = let below = c.requires.below in omega arith

pub of_position-requires : goal.of_position-requires
of_position-requires g c =
    let i = c.requires.inside in
    let lr = i.0 in
    let lc = i.1 in
    let rows = c.requires.whole.rows in
    let cols = c.requires.whole.cols in
    record { row = omega arith; col = omega arith }

pub returns : goal.returns
returns g c =
    λ i. record { at = c.of_position.ensures i; cost = c.args.here.cost; sum = c.of_sum.ensures.value i }
