use Rattle.std.proofs.Common.{sym}
use Rattle.grid_view.proofs.PartLemmas.{rows-shown, cols-shown}
use Rattle.grid_view.proofs.view_mut.GridViewMut.size.Goals as goal

pub returns-clause-rows : goal.returns-clause-rows
returns-clause-rows g c =
    let v = c.args.self.now in
    sym (rows-shown v.board v.cells.now v.stored v.at v.size v.within)

pub returns-clause-cols : goal.returns-clause-cols
returns-clause-cols g c =
    let v = c.args.self.now in
    sym (cols-shown v.board v.cells.now v.stored v.at v.size v.within)
