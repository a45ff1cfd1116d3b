use Rattle.std.proofs.Common.{rules}
use Rattle.grid.proofs.Lemmas.{cols_by_rows}
use Rattle.grid.proofs.grid.Grid.swap_cols.Goals as goal

pub returns-clause-rows : goal.returns-clause-rows
returns-clause-rows g c =
    let rows = c.transpose.ensures.rows in
    cols_by_rows c.args.self.now.rows c.args.self.now.table c.args.a c.args.b c.swap_rows.new.self.rows c.transpose-2.new.self.rows c.swap_rows.new.self.table c.transpose-2.new.self.table
    c.requires.a_in c.requires.b_in (rw (← rows) c.swap_rows.ensures.rows) c.transpose-2.ensures.rows (search rules) (search rules)
