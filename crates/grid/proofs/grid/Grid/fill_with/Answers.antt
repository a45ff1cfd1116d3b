use Rattle.std.proofs.Common.{length, subst, ap}
use Rattle.grid.proofs.Common.{CallableTimes}
use Rattle.grid.proofs.Lemmas.{seen_storage, whole_same, whole_cells}
use Rattle.grid.proofs.grid.Grid.fill_with.Goals as goal

pub returns-clause-cells : goal.returns-clause-cells
returns-clause-cells g c = rw (whole_cells _ _ _ _ _ _ c.self.inside.fits c.self.view_is c.fill_with.ensures.len) c.fill_with.ensures.cells

pub fill_with-requires : goal.fill_with-requires
fill_with-requires g c = subst (CallableTimes _ _ _) (ap length (seen_storage _ _ _ _ _ c.self.inside.fits c.self.view_is)) c.requires

pub returns-clause-same : goal.returns-clause-same
returns-clause-same g c = whole_same _ _ _ _ _ _ c.self.inside.fits c.self.view_is c.fill_with.ensures.len _
