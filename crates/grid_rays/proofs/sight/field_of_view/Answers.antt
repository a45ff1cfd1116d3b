use Rattle.std.proofs.Common.{rules, refl}
use Rattle.grid_rays.proofs.FieldLemmas.{view_tells, view_seen}
use Rattle.grid_rays.proofs.sight.field_of_view.Goals as goal

pub returns-clause-tells : goal.returns-clause-tells
returns-clause-tells g c =
    view_tells (goal.F-post g) c.args.is_clear c.args.radius c.args.from c.args.grid.now _ _ c.map_indexed.result c.map_indexed.ensures.same c.map_indexed.ensures.cells (λ i j p y h. search rules)

pub returns-clause-seen : goal.returns-clause-seen
returns-clause-seen g c = λ p test.
    view_seen (goal.F-post g) c.args.is_clear c.args.radius c.args.from c.args.grid.now.rows p test c.args.grid.now refl c.map_indexed.result c.map_indexed.ensures.same (returns-clause-tells g c)
