use Rattle.std.proofs.Common.{sym}
use Rattle.grid_rays.proofs.SightLemmas.{Sees-told, Sees-told_back}
use Rattle.grid_rays.proofs.sight.sees.Goals as goal

pub returns-clause-seen : goal.returns-clause-seen
returns-clause-seen g c = λ p test.
    rw (sym c.as_view.ensures) (Sees-told (goal.F-post g) c.args.is_clear c.as_view.result.rows p test c.args.from c.args.to c.clear_between.result c.clear_between.ensures)

pub returns-clause-back : goal.returns-clause-back
returns-clause-back g c = λ p test.
    rw (sym c.as_view.ensures) (Sees-told_back (goal.F-post g) c.args.is_clear c.as_view.result.rows p test c.args.from c.args.to c.clear_between.result c.clear_between.ensures)
