use Rattle.std.proofs.Common.{◌<◌, length, arith}
use Rattle.grid_base.proofs.Common.{hd}
use Rattle.grid_base.proofs.flat.room.move_on_stack.Goals as goal

pub with_room-moved-requires-clause-fits : goal.with_room-moved-requires-clause-fits
with_room-moved-requires-clause-fits g c =
    let long : 0 < length c.args.row.items = omega (arith, c.args.row.ok.0, c.requires.row.some) in
    (c.requires.fits, hd c.args.row.items long)

pub with_room-moved-requires-in-Out-clause-fits : goal.with_room-moved-requires-in-Out-clause-fits
with_room-moved-requires-in-Out-clause-fits g c =
    let long : 0 < length c.args.row.items = omega (arith, c.args.row.ok.0, c.requires.row.some) in
    (c.requires.fits, hd c.args.row.items long)
