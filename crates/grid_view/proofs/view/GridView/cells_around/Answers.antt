use Rattle.std.proofs.Common.{◌∙◌, ap}
use Rattle.grid_near.proofs.NearLemmas.{gives_around}
use Rattle.grid_near.specs.Neighbors.{around_of}
use Rattle.grid_view.proofs.view.GridView.cells_around.Goals as goal

pub returns-clause-gives : goal.returns-clause-gives
returns-clause-gives g c = (
  c.neighbors_in.ensures.gives.0 ∙ ap (λ t. around_of c.args.connectivity c.args.edges t c.args.at.0 c.args.at.1) c.strided.ensures.table,
  c.neighbors_in.ensures.gives.1,
  c.neighbors_in.ensures.gives.2,
)

pub returns-clause-cells : goal.returns-clause-cells
returns-clause-cells g c = gives_around c.args.self.now.rows c.args.self.now.table c.args.at.0 c.args.at.1 c.neighbors_in.result c.args.connectivity c.args.edges (returns-clause-gives g c).0
