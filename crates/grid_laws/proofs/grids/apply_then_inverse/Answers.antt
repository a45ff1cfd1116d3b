use Rattle.std.proofs.Common.{◌∙◌, ap}
use Rattle.grid_laws.proofs.Common.{act, order_after, inverse_is, inverse_acts, order_after-order_after, same_grid_value}
use Rattle.grid_laws.proofs.grids.apply_then_inverse.Goals as goal

pub returns-clause-same : goal.returns-clause-same
returns-clause-same g c =
    let undoes = c.inverse_acts.ensures in
    same_grid_value _ _
    (c.apply-2.ensures.rows ∙ (ap (act c.inverse_acts.result) c.apply.ensures.rows ∙ undoes.law _ undoes.same _ c.args.grid.now.table))
    (c.apply-2.ensures.order
    ∙ (ap (order_after c.inverse_acts.result) c.apply.ensures.order
    ∙ (order_after-order_after _ _ c.args.grid.now.order ∙ ap (λ s. order_after s c.args.grid.now.order) (inverse_is _ _ undoes.same))))

pub returns-clause-law : goal.returns-clause-law
returns-clause-law g c = λ t h v e. inverse_acts _ v e t h
