use Rattle.std.proofs.Common.{ap, ◌∙◌, arith}
use Rattle.grid_base.specs.Table.{row_count, col_count}
use Rattle.grid_view.specs.Part.{within-board}
use Rattle.grid_view.specs.View.{sub_table}
use Rattle.grid_view.proofs.PartLemmas.{part-or-none}
use Rattle.grid_view.proofs.view_mut.GridViewMut.view.Goals as goal

pub part-requires-clause-rows_in : goal.part-requires-clause-rows_in
part-requires-clause-rows_in g c =
    let v = c.args.self.now in
    omega (arith, ap row_count c.over-all.ensures, (within-board v.board v.cells.now v.stored v.at v.size v.within).rows_in)

pub part-requires-clause-cols_in : goal.part-requires-clause-cols_in
part-requires-clause-cols_in g c =
    let v = c.args.self.now in
    omega (arith, ap col_count c.over-all.ensures, (within-board v.board v.cells.now v.stored v.at v.size v.within).cols_in)

pub returns : goal.returns
returns g c =
    let v = c.args.self.now in
    part-or-none c.over-all.result.rows c.part.result.rows v.at v.size v.within.none c.part.ensures.rows c.part.ensures.none
    ∙ ap (λ t. sub_table t v.at v.size) c.over-all.ensures
