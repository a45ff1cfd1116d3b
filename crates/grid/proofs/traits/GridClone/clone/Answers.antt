use Rattle.std.specs.List.{AllZip}
use Rattle.grid.proofs.Lemmas.{clone_seen}
use Rattle.grid.proofs.traits.GridClone.clone.Goals as goal

pub returns : goal.returns
returns g c =
    let inside = c.self.inside in
    let read : AllZip g.T.Clone.is_clone inside.flat c.in_ok-cells.cells.items = rw c.as_vec.ensures at c.in_ok-cells.ensures.cases.0 in
    let zip : AllZip g.T.Clone.is_clone inside.flat c.from_vec.result = rw c.from_vec.ensures read in
    record { cases = clone_seen g.T.Clone.is_clone inside.order inside.row_count inside.col_count inside.flat _ c.args.self.now inside.fits _ c.self.view_is zip }
