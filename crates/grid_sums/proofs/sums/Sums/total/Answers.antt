use Rattle.std.proofs.Common.{arith, ◌∙◌, ap}
use Rattle.grid_view.specs.View.{sub_table}
use Rattle.std.proofs.lemmas.Int.{ints}
use Rattle.grid_sums.specs.Numbers.{table_sum}
use Rattle.grid_sums.specs.Corners.{numbers_of}
use Rattle.grid_sums.proofs.SumLemmas.{whole_sum}
use Rattle.grid_sums.proofs.sums.Sums.total.Goals as goal

pub returns : goal.returns
returns g c =
    let s = c.self.inside in
    let m = s.rows in
    let n = s.cols in
    let sum = c.part_sum.ensures.value ∙ (ap (λ l. table_sum (sub_table (numbers_of m n l) (0, 0) (m, n))) c.as_slice.ensures.value ∙ (whole_sum m n s.corners.items ∙ ap table_sum c.self.view_is)) in
    omega (arith, ints, sum)
