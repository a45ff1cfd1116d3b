use Rattle.std.proofs.Common.{ℕ, Result, Ok, refl, rules}
use Rattle.grid.proofs.Common.{GridValue}
use Rattle.grid.proofs.Lemmas.{like_mapped}
use Rattle.grid.proofs.grid.Grid.map_cells.Goals as goal

pub returns-in-Ok-clause-cells : goal.returns-in-Ok-clause-cells
returns-in-Ok-clause-cells g c =
    let t = c.args.view.now in
    let like : GridValue _ = record { rows = t.rows; order = c.args.order; table = t.table; fits = t.fits } in
    let made : Result (GridValue _) ℕ = Ok c.in-Ok.made in
    like_mapped like _ _ _ c.size-rows.ensures.rows c.size-rows.ensures.cols refl made _ _ (λ f at p y. goal.F-post g f at p y) c.args.f c.in-Ok.ensures.made c.in-Ok.ensures.cells (λ row col y within said. search rules)
