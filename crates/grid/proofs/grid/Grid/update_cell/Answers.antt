use Rattle.std.proofs.Common.{arith}
use Rattle.grid.proofs.Lemmas.{updated_cell, set_wrote}
use Rattle.grid.proofs.grid.Grid.update_cell.Goals as goal

pub f-new-requires : goal.f-new-requires
f-new-requires g c = c.requires.calls c.args.col c.get_unchecked.result (omega arith) (omega arith) c.get_unchecked.ensures

pub returns : goal.returns
returns g c =
    let set = c.set.ensures in
    updated_cell _ c.args.row c.args.col c.get_unchecked.result c.f-new.result c.args.self.now c.set.new.self c.requires.in_range c.get_unchecked.ensures c.f-new.ensures
    (set_wrote c.set.result _ _ _ c.requires.in_range set.in_range set.rows) set.same.order set.same.rows set.same.cols
