use Rattle.std.proofs.Common.{◌∙◌, ap, length}
use Rattle.grid.proofs.Common.{none_by_storage}
use Rattle.grid.proofs.grid.Grid.empty_with_order.Goals as goal

pub returns-clause-rows : goal.returns-clause-rows
returns-clause-rows g c =
    none_by_storage c.args.order _ c.from_vec_with_order.result.table
    (ap length c.from_vec_with_order.ensures.storage ∙ ap length c.new.ensures.items)
