use Rattle.std.proofs.Common.{◌≡◌, ◌+◌, ◌*◌, ◌≤◌, ◌<◌, length, arith}
use Rattle.grid_base.proofs.Common.{Mirrored}
use Rattle.grid_base.proofs.Lemmas.{mirrored_one, mirrored_beside}
use Rattle.grid_base.proofs.flat.square.swap_row_across.Goals as goal

pub loop-col-preserved : goal.loop-col-preserved
loop-col-preserved g c =
    let from : c.args.cols.0 ≤ c.loop-col.col = omega (arith, c.loop-col.auto.col) in
    let above : c.args.row < c.loop-col.col = omega arith in
    let within : c.loop-col.col < c.args.side = omega arith in
    let len : length c.loop-col.cells ≡ c.args.side * c.args.side = omega (arith, c.loop-col.invariant.lengths) in
    let beside : c.args.row + 1 ≤ c.args.cols.0 = omega arith in
    let more : c.loop-col.col ≤ c.loop-col.col + 1 = omega arith in
    let one : Mirrored c.args.side c.args.row (c.args.row + 1) c.loop-col.col (c.loop-col.col + 1) c.loop-col.cells c.swap.new.self =
    mirrored_one c.args.side c.args.row c.loop-col.col _ _ len above within c.swap.ensures.after in
    mirrored_beside c.args.side c.args.row _ c.args.cols.0 c.loop-col.col _ _ _ _ beside from more (omega arith) c.loop-col.invariant one
