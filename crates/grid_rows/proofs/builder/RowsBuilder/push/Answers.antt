use Rattle.grid_rows.proofs.RowsLemmas.{row_pushed}
use Rattle.grid_rows.proofs.builder.RowsBuilder.push.Goals as goal

pub returns-clause-pushed : goal.returns-clause-pushed
returns-clause-pushed g c = row_pushed _ _ _ _ c.self.invariant _ c.self.view_is _ _ c.in_ok-push.ensures.items
