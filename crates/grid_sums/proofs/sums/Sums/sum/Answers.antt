use Rattle.std.proofs.Common.{arith, ◌∙◌, ap}
use Rattle.grid_base.proofs.Common.{row_count, col_count}
use Rattle.grid_view.specs.View.{sub_table}
use Rattle.std.proofs.lemmas.Int.{ints}
use Rattle.grid_sums.specs.Numbers.{table_sum}
use Rattle.grid_sums.specs.Corners.{numbers_of}
use Rattle.grid_sums.proofs.SumLemmas.{numbers_rows, numbers_cols}
use Rattle.grid_sums.proofs.sums.Sums.sum.Goals as goal

pub part_sum-requires-clause-rows_in : goal.part_sum-requires-clause-rows_in
part_sum-requires-clause-rows_in g c =
    let s = c.self.inside in
    omega (arith, c.requires.rows_in, numbers_rows s.rows s.cols s.corners.items, ap row_count c.self.view_is)

pub part_sum-requires-clause-cols_in : goal.part_sum-requires-clause-cols_in
part_sum-requires-clause-cols_in g c =
    let s = c.self.inside in
    omega (arith, c.requires.cols_in, numbers_cols s.rows s.cols s.corners.items c.self.invariant.size, ap col_count c.self.view_is)

pub returns : goal.returns
returns g c =
    let s = c.self.inside in
    let sum = c.part_sum.ensures.value ∙ (ap (λ l. table_sum (sub_table (numbers_of s.rows s.cols l) c.args.at c.args.size)) c.as_slice.ensures.value ∙ ap (λ t. table_sum (sub_table t c.args.at c.args.size)) c.self.view_is) in
    omega (arith, ints, sum)
