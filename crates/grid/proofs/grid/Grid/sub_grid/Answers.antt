use Rattle.std.proofs.Common.{◌≡◌, ◌<◌, ◌∙◌, ap}
use Rattle.grid.proofs.Common.{IfOk-weaker, sub_table}
use Rattle.grid.proofs.Lemmas.{part_size, made_part}
use Rattle.grid.proofs.grid.Grid.sub_grid.Goals as goal

pub returns-clause-made : goal.returns-clause-made
returns-clause-made g c =
    let t = c.args.self.now in
    let part = c.part.ensures in
    let size = part_size t.rows c.part.result.rows c.args.at c.args.size t.table c.requires.rows_in c.requires.cols_in part.rows part.none in
    made_part c.from_view.result _ t.order c.args.size.0 c.args.size.1 c.part.result.rows (ap (λ x. x.order) c.self.view_is) size c.from_view.ensures.rows c.from_view.ensures.order

pub returns-clause-rows : goal.returns-clause-rows
returns-clause-rows g c =
    IfOk-weaker c.from_view.result (λ x. x.rows ≡ c.part.result.rows) (λ x. 0 < c.args.size.0 → 0 < c.args.size.1 → x.rows ≡ sub_table c.args.self.now.rows c.args.at c.args.size)
    (λ x is a b. is ∙ c.part.ensures.rows a b) c.from_view.ensures.rows
