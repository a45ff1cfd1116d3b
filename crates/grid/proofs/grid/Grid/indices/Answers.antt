use Rattle.grid.proofs.Lemmas.{gives_indices_of}
use Rattle.grid.proofs.grid.Grid.indices.Goals as goal

pub returns : goal.returns
returns g c = record {
  gives = gives_indices_of c.args.self.now.rows _ _ c.args.self.now.table c.args.self.now.fits c.size-rows.ensures.rows c.size-rows.ensures.cols c.new.result c.new.ensures;
}
