use Rattle.std.proofs.Common.{◌∙◌}
use Rattle.grid.proofs.Lemmas.{seen_indexed, gives_cells, indexed_fits}
use Rattle.grid.proofs.grid.Grid.indexed_iter.Goals as goal

pub returns : goal.returns
returns g c = record {
  gives = (
    c.indexed_iter.ensures ∙ seen_indexed _ _ _ _ _ c.self.inside.fits c.self.view_is,
    gives_cells _ _ _ _ _ c.self.inside.fits c.self.view_is _ c.indexed_iter.ensures,
    indexed_fits _ _ _ _ _ c.self.inside.fits c.self.view_is _ c.indexed_iter.ensures,
  );
}
