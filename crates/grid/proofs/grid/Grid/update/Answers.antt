use Rattle.grid.proofs.Lemmas.{seen_callable, seen_mapped, whole_same}
use Rattle.grid.proofs.grid.Grid.update.Goals as goal

pub update-requires-clause-calls : goal.update-requires-clause-calls
update-requires-clause-calls g c = seen_callable _ _ _ _ _ c.self.inside.fits c.self.view_is _ _ c.requires

pub returns-clause-same : goal.returns-clause-same
returns-clause-same g c = whole_same _ _ _ _ _ _ c.self.inside.fits c.self.view_is c.update.ensures.len _

pub returns-clause-cells : goal.returns-clause-cells
returns-clause-cells g c = seen_mapped _ _ _ _ _ c.self.inside.fits c.self.view_is _ _ _ c.update.ensures.len c.update.ensures.cells
