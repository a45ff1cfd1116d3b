use Rattle.grid.proofs.Lemmas.{seen_callable, seen_mapped, whole_same}
use Rattle.grid.proofs.grid.Grid.map_indexed.Goals as goal

pub map_indexed-requires-clause-calls : goal.map_indexed-requires-clause-calls
map_indexed-requires-clause-calls g c = seen_callable _ _ _ _ _ c.self.inside.fits c.self.view_is _ _ c.requires

pub returns-clause-same : goal.returns-clause-same
returns-clause-same g c = whole_same _ _ _ _ _ _ c.self.inside.fits c.self.view_is c.in_ok-flat.ensures.len _

pub returns-clause-cells : goal.returns-clause-cells
returns-clause-cells g c = seen_mapped _ _ _ _ _ c.self.inside.fits c.self.view_is _ _ _ c.in_ok-flat.ensures.len c.in_ok-flat.ensures.cells
