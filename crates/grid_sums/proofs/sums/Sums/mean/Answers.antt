use Rattle.std.proofs.Common.{arith, ◌∙◌, ap, ◌≤◌, ◌*◌, subst, sym, w64, to_z, of_z}
use Rattle.grid_base.proofs.Common.{row_count, col_count}
use Rattle.grid_view.specs.View.{sub_table}
use Rattle.std.specs.Int.{w128}
use Rattle.std.proofs.lemmas.Int.{to_z-of_z}
use Rattle.grid_sums.specs.Numbers.{table_sum, IsMean}
use Rattle.grid_sums.specs.Corners.{numbers_of}
use Rattle.grid_sums.proofs.SumLemmas.{numbers_rows, numbers_cols}
use Rattle.grid_sums.proofs.MeanLemmas.{part_below}
use Rattle.grid_sums.proofs.sums.Sums.mean.Goals as goal

pub part_sum-sum-requires-clause-rows_in : goal.part_sum-sum-requires-clause-rows_in
part_sum-sum-requires-clause-rows_in g c =
    let s = c.self.inside in
    omega (arith, c.requires.rows_in, numbers_rows s.rows s.cols s.corners.items, ap row_count c.self.view_is)

pub part_sum-sum-requires-clause-cols_in : goal.part_sum-sum-requires-clause-cols_in
part_sum-sum-requires-clause-cols_in g c =
    let s = c.self.inside in
    omega (arith, c.requires.cols_in, numbers_cols s.rows s.cols s.corners.items c.self.invariant.size, ap col_count c.self.view_is)

pub overflow_mul-size : goal.overflow_mul-size
overflow_mul-size g c =
    let s = c.self.inside in
    let h = c.self.invariant in
    let rows : c.args.size.0 ≤ s.rows = omega (arith, c.requires.rows_in, numbers_rows s.rows s.cols s.corners.items, ap row_count c.self.view_is) in
    let cols : c.args.size.1 ≤ s.cols = omega (arith, c.requires.cols_in, numbers_cols s.rows s.cols s.corners.items h.size, ap col_count c.self.view_is) in
    omega (arith, h.below, part_below s.rows s.cols _ c.args.size.0 c.args.size.1 h.count rows cols)

pub mean_of-requires-clause-below : goal.mean_of-requires-clause-below
mean_of-requires-clause-below g c =
    let s = c.self.inside in
    let h = c.self.invariant in
    let rows : c.args.size.0 ≤ s.rows = omega (arith, c.requires.rows_in, numbers_rows s.rows s.cols s.corners.items, ap row_count c.self.view_is) in
    let cols : c.args.size.1 ≤ s.cols = omega (arith, c.requires.cols_in, numbers_cols s.rows s.cols s.corners.items h.size, ap col_count c.self.view_is) in
    omega (arith, h.below, part_below s.rows s.cols _ c.args.size.0 c.args.size.1 h.count rows cols)

pub returns : goal.returns
returns g c =
    let s = c.self.inside in
    let sum = c.part_sum-sum.ensures.value ∙ (ap (λ l. table_sum (sub_table (numbers_of s.rows s.cols l) c.args.at c.args.size)) c.as_slice.ensures.value ∙ ap (λ t. table_sum (sub_table t c.args.at c.args.size)) c.self.view_is) in
    let back = to_z-of_z w64 c.mean_of.result (record { sfits = c.mean_of.type_inv }) in
    let n = c.args.size.0 * c.args.size.1 in
    let is : IsMean c.part_sum-sum.result n c.mean_of.result = subst (λ z. IsMean z n c.mean_of.result) (to_z-of_z w128 c.part_sum-sum.result (record { sfits = c.part_sum-sum.type_inv })) c.mean_of.ensures in
    subst (λ z. IsMean z n (to_z w64 (of_z w64 c.mean_of.result))) sum (subst (IsMean c.part_sum-sum.result n) (sym back) is)
