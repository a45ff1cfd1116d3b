use Rattle.std.proofs.Common.{◌≡◌, ◌∙◌, sym, ap, arith, subst, pos, to_z, of_z, w64}
use Rattle.std.specs.Int.{int_div_euclid, w128}
use mir.Val.{SFits}
use Rattle.std.proofs.lemmas.Int.{to_z-of_z, to_z_pos}
use Rattle.grid_sums.specs.Numbers.{IsMean}
use Rattle.grid_sums.proofs.MeanLemmas.{mean_fits, mean_is}
use Rattle.grid_sums.proofs.sums.mean_of.Goals as goal

quotient : (c : goal.After-div_euclid) → to_z w128 (of_z w128 c.div_euclid.result) ≡ int_div_euclid c.args.sum (pos c.args.count)
quotient c =
    let sum = to_z-of_z w128 c.args.sum c.ranges.sum in
    let count = to_z_pos w128 c.args.count (omega (arith, c.requires.below)) in
    to_z-of_z w128 c.div_euclid.result (record { sfits = c.div_euclid.type_inv })
    ∙ (c.div_euclid.ensures ∙ (ap (λ z. int_div_euclid z (to_z w128 c.args.count)) sum ∙ ap (int_div_euclid c.args.sum) count))

pub overflow_cast-result : goal.overflow_cast-result
overflow_cast-result c =
    subst (SFits w64) (sym (quotient c)) (record { sfits = mean_fits c.args.sum c.args.count c.requires.some c.requires.within })

pub returns : goal.returns
returns c =
    let back = to_z-of_z w64 (to_z w128 (of_z w128 c.div_euclid.result)) (overflow_cast-result c) in
    subst (IsMean c.args.sum c.args.count) (sym (back ∙ quotient c)) (mean_is c.args.sum c.args.count c.requires.some)
