use Rattle.std.proofs.Common.{◌≡◌, length, ◌∙◌, ap, arith}
use Rattle.grid.proofs.Common.{insert_rows}
use Rattle.grid.proofs.Lemmas.{table_of-line, put_line}
use Rattle.grid_base.specs.Order.{table_of}
use Rattle.grid.proofs.grid.Grid.insert_row.Goals as goal

pub returns-in-Ok-clause-rows : goal.returns-in-Ok-clause-rows
returns-in-Ok-clause-rows g c =
    let width : c.len-width.result ≡ length c.args.line.items = omega arith in
    c.in-Ok.ensures.rows
    ∙ (ap (λ w. insert_rows c.args.at (table_of c.args.self.now.order 1 w c.args.line.items) c.args.self.now.rows) width
    ∙ (ap (λ t. insert_rows c.args.at t c.args.self.now.rows) (table_of-line c.args.self.now.order c.args.line.items c.requires.nonempty)
    ∙ put_line c.args.at c.args.line.items c.args.self.now.rows))
