use Rattle.std.proofs.Common.{subst}
use Rattle.grid.proofs.Common.{CallableAtEach}
use Rattle.grid.proofs.Lemmas.{seen_storage, seen_same, whole_same, whole_cells}
use Rattle.grid.proofs.grid.Grid.map.Goals as goal

pub returns-in-Ok-clause-cells : goal.returns-in-Ok-clause-cells
returns-in-Ok-clause-cells g c = rw (whole_cells _ _ _ _ _ _ c.self.inside.fits c.self.view_is c.in-Ok.ensures.len, seen_storage _ _ _ _ _ c.self.inside.fits c.self.view_is) c.in-Ok.ensures.cells

pub map-requires : goal.map-requires
map-requires g c = subst (CallableAtEach _ _ _) (seen_storage _ _ _ _ _ c.self.inside.fits c.self.view_is) c.requires

pub returns-in-Err-clause-refused : goal.returns-in-Err-clause-refused
returns-in-Err-clause-refused g c = seen_same _ _ _ _ _ c.self.inside.fits c.self.view_is _ _ c.in-Err.ensures.refused

pub returns-in-Ok-clause-same : goal.returns-in-Ok-clause-same
returns-in-Ok-clause-same g c = whole_same _ _ _ _ _ _ c.self.inside.fits c.self.view_is c.in-Ok.ensures.len _
