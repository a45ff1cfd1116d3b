use Rattle.std.proofs.Common.{sym, ◌∙◌}
use Rattle.std.proofs.lemmas.Bool.{false≢true}
use Rattle.grid_near.specs.declared.direction.Direction.TheVariants.{DownLeft}
use Rattle.grid_rays.proofs.RunLemmas.{HasRun-cases}
use Rattle.grid_rays.proofs.along.has_run_in.Goals as goal
use Rattle.grid_rays.proofs.along.has_run_in.Goals.{then-has_run_along, else-has_run_along, then-has_run_along-2, else-has_run_along-2}

pub returns-else-has_run_along-3 : goal.returns-else-has_run_along-3
returns-else-has_run_along-3 g c =
    let last = c.has_run_along-else-has_run_along-3.ensures in (
      λ e. (DownLeft, last.0 e),
      λ h.
          elim c.if-has_run_along-2.branch [
            | then-has_run_along-2 w ↦ absurd (false≢true (sym c.if-has_run_along-3.false ∙ (w.value-is ∙ w.if-has_run_along-2.true)))
            | else-has_run_along-2 w ↦ elim c.if-has_run_along.branch [
              | then-has_run_along v ↦ absurd (false≢true (sym w.if-has_run_along-2.false ∙ (v.value-is ∙ v.if-has_run_along.true)))
              | else-has_run_along v ↦
                  HasRun-cases g.T.PartialEq.eq c.args.board.now.rows c.args.at c.args.n
                  (λ x. absurd (false≢true (sym v.if-has_run_along.false ∙ c.has_run_along.ensures.1 x)))
                  (λ x. absurd (false≢true (sym w.if-has_run_along-2.false ∙ (v.value-is ∙ v.has_run_along-else-has_run_along.ensures.1 x))))
                  (λ x. absurd (false≢true (sym c.if-has_run_along-3.false ∙ (w.value-is ∙ w.has_run_along-else-has_run_along-2.ensures.1 x))))
                  last.1
                  h
            ]
          ],
    )
