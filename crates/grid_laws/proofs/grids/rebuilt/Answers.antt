use Rattle.std.proofs.Common.{◌≡◌, ◌∙◌, length, sym, ap, ⊎_elim}
use Rattle.grid_laws.proofs.Common.{cases_eq, storage, same_grid_value, same_by_storage, none_by_storage, CanCut-storage}
use Rattle.grid_laws.proofs.grids.rebuilt.Goals as goal

pub from_vec_with_order-requires : goal.from_vec_with_order-requires
from_vec_with_order-requires g c =
    rw (c.into_vec.ensures, c.size-cols.ensures.cols) (CanCut-storage c.args.grid.order c.args.grid.rows c.args.grid.table)

pub returns-clause-same : goal.returns-clause-same
returns-clause-same g c =
    let built = c.from_vec_with_order.ensures in
    let old = c.args.grid in
    let table = c.args.grid.table in
    let order = built.order ∙ c.order-order.ensures in
    let stored : storage old.order c.from_vec_with_order.result.rows ≡ storage old.order old.rows =
    ap (λ o. storage o c.from_vec_with_order.result.rows) (sym c.order-order.ensures) ∙ (built.storage ∙ c.into_vec.ensures) in
    let rows : c.from_vec_with_order.result.rows ≡ old.rows =
    ⊎_elim (λ none.
    none_by_storage old.order _ c.from_vec_with_order.result.table (ap length (stored ∙ sym c.into_vec.ensures) ∙ none)
    ∙ sym (none_by_storage old.order old.rows table (ap length (sym c.into_vec.ensures) ∙ none)))
    (λ some. same_by_storage old.order _ old.rows c.from_vec_with_order.result.table table (built.cols some ∙ c.size-cols.ensures.cols) stored)
    (cases_eq (length c.into_vec.result.items) 0) in
    same_grid_value _ _ rows order

pub returns-clause-law : goal.returns-clause-law
returns-clause-law g c = λ t h cols same. same_by_storage c.args.grid.order t c.args.grid.rows h c.args.grid.table cols same
