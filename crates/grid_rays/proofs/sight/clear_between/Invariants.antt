use Rattle.std.proofs.Common.{◌≡◌, ◌-◌, true}
use Rattle.grid.specs.Prelude.{AnswersAt}
use Rattle.grid_rays.proofs.SightLemmas.{IsLooking}
use Rattle.grid_rays.proofs.sight.clear_between.Given as goal

abbrev pub invariant-loop-done : goal.invariant-loop-done
invariant-loop-done g l =
    (l.rows.from ≡ l.fn.from.0)
    × (l.rows.to ≡ l.fn.to.0)
    × (l.cols.from ≡ l.fn.from.1)
    × (l.cols.to ≡ l.fn.to.1)
    × IsLooking (λ at. AnswersAt (goal.F-post g) l.fn.is_clear l.fn.board.rows at true) l.fn.from l.fn.to (l.rows.at, l.cols.at) (l.rows.past, l.cols.past) l.done (l.steps - l.done)
