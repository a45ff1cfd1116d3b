use Rattle.grid_view.proofs.SameLemmas.{tells_same}
use Rattle.grid_view.proofs.same.has_same_table.Goals as goal

pub returns-then-other-eq1 : goal.returns-then-other-eq1
returns-then-other-eq1 g c =
    let t = c.args.view.now in
    let u = c.args.other.now in
    tells_same g.T.PartialEq.eq t.rows u.rows t.table u.table c.args.size.0 c.args.size.1 c.requires.rows_here c.requires.rows_there c.requires.cols_here c.requires.cols_there c.has_same_rows.result c.has_same_rows.ensures

pub returns-else-view-eq1 : goal.returns-else-view-eq1
returns-else-view-eq1 g c =
    let t = c.args.view.now in
    let u = c.args.other.now in
    tells_same g.T.PartialEq.eq t.rows u.rows t.table u.table c.args.size.0 c.args.size.1 c.requires.rows_here c.requires.rows_there c.requires.cols_here c.requires.cols_there c.has_same_halves.result c.has_same_halves.ensures
