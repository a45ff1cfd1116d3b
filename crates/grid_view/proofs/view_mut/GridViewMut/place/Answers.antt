use Rattle.std.proofs.Common.{arith}
use Rattle.grid_view.proofs.PartLemmas.{at_within}
use Rattle.grid_view.proofs.view_mut.GridViewMut.place.Goals as goal

pub returns-clause-within : goal.returns-clause-within
returns-clause-within g c =
    let v = c.args.self.now in
    omega (arith, c.place.ensures, at_within v.board v.cells.now v.stored v.at v.size v.within c.args.row c.args.col c.requires.row_in c.requires.col_in)
