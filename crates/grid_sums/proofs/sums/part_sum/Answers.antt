use Rattle.std.proofs.Common.{sym, subst, arith, ◌*◌}
use Rattle.std.proofs.lemmas.Int.{ints}
use Rattle.grid_sums.specs.Corners.{IsWithin}
use Rattle.grid_sums.proofs.SumLemmas.{sub_sum}
use Rattle.grid_sums.proofs.MeanLemmas.{within_part}
use Rattle.grid_sums.proofs.sums.part_sum.Goals as goal

pub returns-clause-value : goal.returns-clause-value
returns-clause-value c =
    let sum = sub_sum c.args.board.0 c.args.board.1 c.args.corners.now c.args.at c.args.size c.requires.rows_in c.requires.cols_in in
    omega (arith, ints, sum, c.corner.ensures.value, c.corner-2.ensures.value, c.corner-3.ensures.value, c.corner-4.ensures.value)

pub returns-clause-within : goal.returns-clause-within
returns-clause-within c =
    subst (λ z. IsWithin z (c.args.size.0 * c.args.size.1)) (sym (returns-clause-value c))
    (within_part c.args.board.0 c.args.board.1 c.args.corners.now c.args.at c.args.size c.requires.holds.numbers c.requires.rows_in c.requires.cols_in)
