use Rattle.std.proofs.Common.{◌∙◌}
use Rattle.grid.specs.Prelude.{row_count, col_count, HasSize}
use Rattle.grid_changes.proofs.AskedLemmas.{filled_size}
use Rattle.grid_changes.proofs.asked.filled_like.Goals as goal

pub returns-in-Ok-step-clause-rows : goal.returns-in-Ok-step-clause-rows
returns-in-Ok-step-clause-rows g c same =
    let t = c.args.grid.now in
    let size : HasSize (row_count t.rows) (col_count t.rows) c.in-Ok.filled.rows = rw (← c.size-rows.ensures.rows, ← c.size-rows.ensures.cols) c.in-Ok.ensures.made.size in
    c.in-Ok-step.ensures.stepped.rows c.args.value same ∙ filled_size c.args.value c.args.value t.rows c.in-Ok.filled.rows t.table c.in-Ok.filled.table size
