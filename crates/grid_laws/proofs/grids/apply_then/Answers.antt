use Rattle.std.proofs.Common.{◌∙◌, ap, sym}
use Rattle.grid_laws.proofs.Common.{order_after, then_is, order_after-order_after}
use Rattle.grid_laws.proofs.grids.apply_then.Goals as goal

pub returns-clause-rows : goal.returns-clause-rows
returns-clause-rows g c = c.apply.ensures.rows ∙ c.then_acts.ensures.law _ c.then_acts.ensures.same _ c.args.grid.now.table

pub returns-clause-order : goal.returns-clause-order
returns-clause-order g c =
    c.apply.ensures.order
    ∙ (ap (λ s. order_after s c.args.grid.now.order) (then_is _ _ _ c.then_acts.ensures.same) ∙ sym (order_after-order_after _ _ c.args.grid.now.order))
