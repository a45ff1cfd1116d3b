use Rattle.std.proofs.Common.{◌∙◌, ap}
use Rattle.grid.proofs.Common.{around_of}
use Rattle.grid.proofs.Lemmas.{gives_around, seen_row_in, seen_col_in}
use Rattle.grid.proofs.grid.Grid.cells_around.Goals as goal

pub returns-clause-gives : goal.returns-clause-gives
returns-clause-gives g c = (
  (rw c.as_slice.ensures at c.neighbors_of.ensures.gives.0) ∙ ap (λ x. around_of c.args.connectivity c.args.edges x.rows c.args.at.0 c.args.at.1) c.self.view_is,
  c.neighbors_of.ensures.gives.1,
  c.neighbors_of.ensures.gives.2,
)

pub returns-clause-cells : goal.returns-clause-cells
returns-clause-cells g c = gives_around c.args.self.now.rows c.args.self.now.table c.args.at.0 c.args.at.1 c.neighbors_of.result c.args.connectivity c.args.edges (returns-clause-gives g c).0

pub returns-clause-count : goal.returns-clause-count
returns-clause-count g c = λ e h.
    let within_rows = seen_row_in _ _ _ _ _ c.self.inside.fits _ _ c.self.view_is h in
    let within_cols = seen_col_in _ _ _ _ _ c.self.inside.fits _ _ c.self.view_is h in
    c.neighbors_of.ensures.count e within_rows within_cols
