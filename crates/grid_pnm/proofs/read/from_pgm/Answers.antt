-- The cells are cut into the rows of the picture.
use Rattle.std.proofs.Common.{◌≡◌, ◌*◌, inr, length, sym, arith}
use Rattle.grid_pnm.proofs.PictureLemmas.{can_cut, rows_are, pgm_is}
use Rattle.grid_pnm.proofs.read.from_pgm.Goals as goal

pub from_vec-requires : goal.from_vec-requires
from_vec-requires g c =
    let count : length c.in_ok-cells.cells.items ≡ c.in_ok-header.header.rows * c.in_ok-header.header.cols = omega (arith, c.in_ok-cells.ensures.1) in
    can_cut c.in_ok-header.header c.in_ok-cells.cells.items count

pub returns : goal.returns
returns g c =
    let count : length c.in_ok-cells.cells.items ≡ c.in_ok-header.header.rows * c.in_ok-header.header.cols = omega (arith, c.in_ok-cells.ensures.1) in
    let e = c.from_vec.ensures in
    let rows = rows_are c.in_ok-header.header c.in_ok-cells.cells.items count c.from_vec.result.rows c.from_vec.result.table e.storage e.cols in
    inr (pgm_is _ c.in_ok-header.header _ _ (sym c.in_ok-header.ensures.header) c.if-header.false c.in_ok-cells.ensures.0 rows, e.order)
