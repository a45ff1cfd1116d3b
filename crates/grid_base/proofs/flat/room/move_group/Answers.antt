use Rattle.std.proofs.Common.{◌<◌, length, arith}
use Rattle.grid_base.proofs.Common.{hd}
use Rattle.grid_base.proofs.Lemmas.{one_pasted}
use Rattle.grid_base.proofs.flat.room.move_group.Goals as goal

pub returns-then-count-eq1-clause-items : goal.returns-then-count-eq1-clause-items
returns-then-count-eq1-clause-items g c =
    let from = c.args.from.now in
    let single = c.if-count-eq1.true in
    let within : c.args.at < length from.items = omega (arith, from.ok.0, c.requires.from) in
    let room : c.args.to < length c.args.other.now.items = omega (arith, c.args.other.now.ok.0, c.requires.to) in
    let any = hd from.items (omega (arith, within)) in
    one_pasted from.items c.args.other.now.items _ c.args.at c.args.to c.args.count any single (c.move_to.ensures.items any) within room
