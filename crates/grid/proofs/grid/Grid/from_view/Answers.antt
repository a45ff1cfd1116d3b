use Rattle.std.proofs.Common.{rules}
use Rattle.grid.proofs.Common.{CanCut-storage}
use Rattle.grid.proofs.Lemmas.{from_storage}
use Rattle.grid.proofs.grid.Grid.from_view.Goals as goal

pub from_vec_with_order-requires : goal.from_vec_with_order-requires
from_vec_with_order-requires g c = rw (c.in_ok-cells.ensures, c.cols.ensures) (CanCut-storage c.args.order c.args.view.now.rows c.args.view.now.table)

pub returns-clause-rows : goal.returns-clause-rows
returns-clause-rows g c =
    let made = c.from_vec_with_order.ensures in
    from_storage c.args.order c.args.view.now.rows c.from_vec_with_order.result.rows c.args.view.now.table c.from_vec_with_order.result.table _ _ c.in_ok-cells.ensures made.storage c.cols.ensures made.cols

pub returns-clause-order : goal.returns-clause-order
returns-clause-order g c = search rules

pub returns-in_err-cells-clause-rows : goal.returns-in_err-cells-clause-rows
returns-in_err-cells-clause-rows g c = search rules

pub returns-in_err-cells-clause-order : goal.returns-in_err-cells-clause-order
returns-in_err-cells-clause-order g c = search rules
