use Rattle.std.proofs.Common.{ap, length, map, List}
use Rattle.grid.proofs.Lemmas.{CanCut-rows, rows_shape, rows_equal}
use Rattle.grid.proofs.convert.GridTryFromVecVec.try_from.Goals as goal

pub from_vec-requires : goal.from_vec-requires
from_vec-requires g c =
    let lists : List (List g.row.T.Denot) = map (λ row. row.items) c.args.rows.items in
    let measured = rw c.as_slice.ensures.value at c.in_ok-count.ensures in
    CanCut-rows lists _ c.in_ok-count.cols measured.0 measured.2 (ap length c.in_ok-cells.ensures)

pub returns : goal.returns
returns g c =
    let lists : List (List g.row.T.Denot) = map (λ row. row.items) c.args.rows.items in
    let measured = rw c.as_slice.ensures.value at c.in_ok-count.ensures in
    let made = c.from_vec.ensures in (
      measured.0,
      rows_shape lists c.in_ok-cells.cells.items c.in_ok-count.cols c.from_vec.result measured.0 measured.2 made.storage made.cols made.order (ap length c.in_ok-cells.ensures),
      rows_equal lists c.in_ok-cells.cells.items c.in_ok-count.cols c.from_vec.result measured.0 measured.2 made.storage made.cols c.in_ok-cells.ensures,
    )
