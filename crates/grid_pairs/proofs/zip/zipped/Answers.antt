use Rattle.grid_pairs.proofs.JoinLemmas.{placed_cut, joined_cut}
use Rattle.grid_pairs.proofs.zip.zipped.Goals as goal

pub from_vec_with_order-requires : goal.from_vec_with_order-requires
from_vec_with_order-requires g c = rw c.cols.ensures (placed_cut _ _ _ _ _ _ c.args.board.now.table c.in_ok-cells.ensures)

pub returns-clause-cells : goal.returns-clause-cells
returns-clause-cells g c =
    let made = c.from_vec_with_order in
    joined_cut _ _ _ _ _ _ c.args.board.now.table c.args.board.now.fits.cells c.in_ok-cells.ensures made.result.rows c.cols.result made.result.table made.ensures.storage c.cols.ensures made.ensures.cols
