-- The grid that is cut from the cells of the rows.
use Rattle.std.proofs.Common.{◌∙◌}
use Rattle.grid_rows.proofs.RowsLemmas.{can_cut, rows_are}
use Rattle.grid_rows.proofs.builder.RowsBuilder.into_grid.Goals as goal

pub from_vec-requires : goal.from_vec-requires
from_vec-requires g c = rw c.unwrap_or-cols.ensures (can_cut _ _ _ _ c.self.invariant _ c.self.view_is _ c.truncate.ensures.items)

pub returns-clause-rows : goal.returns-clause-rows
returns-clause-rows g c =
    rows_are _ _ _ _ c.self.invariant _ c.self.view_is _ c.truncate.ensures.items c.from_vec.result c.from_vec.ensures.storage (λ some. c.from_vec.ensures.cols some ∙ c.unwrap_or-cols.ensures)
