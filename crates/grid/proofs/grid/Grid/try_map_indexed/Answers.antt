use Rattle.std.proofs.Common.{rules, Ok}
use Rattle.grid.proofs.Lemmas.{like_same, like_mapped, like_fault}
use Rattle.grid.proofs.grid.Grid.try_map_indexed.Goals as goal

pub returns-in-Ok-clause-same : goal.returns-in-Ok-clause-same
returns-in-Ok-clause-same g c = like_same c.args.self.now _ _ _ c.size-rows.ensures.rows c.size-rows.ensures.cols c.order.ensures c.in-Ok.made c.in-Ok.ensures.made

pub returns-in-Ok-clause-cells : goal.returns-in-Ok-clause-cells
returns-in-Ok-clause-cells g c =
    like_mapped c.args.self.now _ _ _ c.size-rows.ensures.rows c.size-rows.ensures.cols c.order.ensures c.in-Ok.made _ _ (λ f at p y. goal.F-post g f at p (Ok y)) c.args.f c.in-Ok.ensures.made c.in-Ok.ensures.cells (λ row col y within said. search rules)

pub returns-in-Ok-clause-failed : goal.returns-in-Ok-clause-failed
returns-in-Ok-clause-failed g c =
    like_fault c.args.self.now _ _ _ c.size-rows.ensures.rows c.size-rows.ensures.cols c.order.ensures c.in-Ok.made _ (goal.F-post g c.args.f) c.in-Ok.ensures.failed (λ at y within said. search rules)
