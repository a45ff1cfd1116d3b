use Rattle.grid_sums.proofs.BuildLemmas.{holds_sums, are_numbers}
use Rattle.grid_sums.proofs.sums.sums_of.Goals as goal

pub invariant_of-result : goal.invariant_of-result
invariant_of-result g c =
    rw (c.size-rows.ensures.rows, c.size-rows.ensures.cols) (holds_sums _ _ c.args.board.now.rows _ c.args.board.now.table c.in_ok-corners.ensures.sums c.in_ok-corners.ensures.below)

pub returns : goal.returns
returns g c =
    rw (c.size-rows.ensures.rows, c.size-rows.ensures.cols) (are_numbers _ _ c.args.board.now.rows _ c.args.board.now.table c.in_ok-corners.ensures.sums)
