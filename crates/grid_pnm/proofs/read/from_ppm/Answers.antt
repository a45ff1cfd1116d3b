-- The cells are cut into the rows of the picture.
use Rattle.std.proofs.Common.{inr, sym}
use Rattle.grid_pnm.proofs.PictureLemmas.{can_cut, rows_are, ppm_is, threes_count}
use Rattle.grid_pnm.proofs.read.from_ppm.Goals as goal

pub from_vec-requires : goal.from_vec-requires
from_vec-requires g c =
    let cells = c.in_ok-cells.ensures in
    can_cut c.in_ok-header.header c.in_ok-cells.cells.items (threes_count c.in_ok-header.header _ _ cells.2 cells.3)

pub returns : goal.returns
returns g c =
    let cells = c.in_ok-cells.ensures in
    let e = c.from_vec.ensures in
    let rows = rows_are c.in_ok-header.header c.in_ok-cells.cells.items (threes_count c.in_ok-header.header _ _ cells.2 cells.3) c.from_vec.result.rows c.from_vec.result.table e.storage e.cols in
    inr (ppm_is _ c.in_ok-header.header cells.0 _ _ (sym c.in_ok-header.ensures.header) c.if-not-header.false cells.1 cells.2 cells.3 rows, e.order)
