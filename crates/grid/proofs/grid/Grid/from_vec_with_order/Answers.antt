use Rattle.std.proofs.Common.{rules, ◌≡◌, ◌∙◌, ap, length, arith}
use Rattle.grid.proofs.Common.{view-cols, view-storage}
use Rattle.grid_base.specs.GridValue.{HoldsSize}
use Rattle.grid.proofs.grid.Grid.from_vec_with_order.Goals as goal

-- the size fits the vector
holds : (g : _) (c : goal.After-result-1 g) → HoldsSize c.size_of_cut-row_count.result.0 c.size_of_cut-row_count.result.1 (length c.from_vec.result)
holds g c =
    let len : c.len.result ≡ length c.from_vec.result = omega (arith, ap length c.from_vec.ensures) in
    rw len at c.size_of_cut-row_count.ensures.holds

pub returns-clause-storage : goal.returns-clause-storage
returns-clause-storage g c = view-storage _ _ _ _ (holds g c) ∙ c.from_vec.ensures

pub returns-clause-cols : goal.returns-clause-cols
returns-clause-cols g c = λ some. view-cols _ _ _ _ (holds g c) ∙ c.size_of_cut-row_count.ensures.cols (omega (arith, some))

pub returns-clause-order : goal.returns-clause-order
returns-clause-order g c = search rules
