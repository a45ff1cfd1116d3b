use Rattle.grid_rows.proofs.RowsLemmas.{all_cells}
use Rattle.grid_rows.proofs.builder.RowsBuilder.into_vec.Goals as goal

pub returns : goal.returns
returns g c = all_cells _ _ _ _ c.self.invariant _ c.self.view_is
