use Rattle.std.proofs.Common.{subst}
use Rattle.grid.proofs.Common.{CallableAtRefs}
use Rattle.grid.proofs.Lemmas.{seen_storage, whole_same, whole_cells}
use Rattle.grid.proofs.grid.Grid.map_ref.Goals as goal

pub returns-clause-cells : goal.returns-clause-cells
returns-clause-cells g c = rw (whole_cells _ _ _ _ _ _ c.self.inside.fits c.self.view_is c.in_ok-flat.ensures.len, seen_storage _ _ _ _ _ c.self.inside.fits c.self.view_is) c.in_ok-flat.ensures.cells

pub map_ref-requires : goal.map_ref-requires
map_ref-requires g c = subst (CallableAtRefs _ _) (seen_storage _ _ _ _ _ c.self.inside.fits c.self.view_is) c.requires

pub returns-clause-same : goal.returns-clause-same
returns-clause-same g c = whole_same _ _ _ _ _ _ c.self.inside.fits c.self.view_is c.in_ok-flat.ensures.len _
