use Rattle.std.proofs.Common.{arith}
use Rattle.grid_base.proofs.Common.{col_count, items_of_each}
use Rattle.grid_base.proofs.Lemmas.{length-concat_rows, rows-vecs}
use Rattle.grid_base.proofs.flat.Flat.append_rows.Goals as goal

pub append_each-requires : goal.append_each-requires
append_each-requires g c =
    let t = items_of_each c.args.rows.now in
    record { room = grind (arith, c.in_ok-reserve.ensures.ok, length-concat_rows t (col_count t) c.requires.table.even, rows-vecs c.args.rows.now, c.requires.width) }
