use Rattle.std.proofs.Common.{◌≡◌, ◌≢◌, ◌/◌, ◌%◌, ◌^◌, ◌<◌, length, ◌∙◌, ap, rules}
use Rattle.grid_base.specs.GridValue.{HoldsSize}
use Rattle.grid_base.specs.Order.{storage}
use Rattle.grid_base.specs.Table.{col_count}
use Rattle.grid_base.proofs.ViewLemmas.{HoldsSize-none, HoldsSize-cut, view-storage, view-cols}
use Rattle.grid_view.proofs.view.GridView.from_slice.Goals as goal

pub returns-then-is_empty-clause-storage : goal.returns-then-is_empty-clause-storage
returns-then-is_empty-clause-storage g c =
    let none : length c.args.cells.now ≡ 0 = search rules in
    ap (storage c.args.order) c.over.ensures ∙ view-storage _ _ _ _ (HoldsSize-none _ none)

-- the size fits the slice
holds : (g : _) (c : goal.After-over-2 g) → HoldsSize (length c.args.cells.now / c.args.cols) c.args.cols (length c.args.cells.now)
holds g c =
    let some : length c.args.cells.now ≢ 0 = search rules in
    let wide : c.args.cols ≢ 0 = search rules in
    let even : length c.args.cells.now % c.args.cols ≡ 0 = search rules in
    let small : length c.args.cells.now < 2 ^ 64 = search rules in
    HoldsSize-cut _ _ some wide even small

pub returns-clause-storage : goal.returns-clause-storage
returns-clause-storage g c = ap (storage c.args.order) c.over-2.ensures ∙ view-storage _ _ _ _ (holds g c)

pub returns-clause-cols : goal.returns-clause-cols
returns-clause-cols g c = λ some. ap col_count c.over-2.ensures ∙ view-cols _ _ _ _ (holds g c)
