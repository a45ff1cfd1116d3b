-- The rows of the transposed table.
use Rattle.std.proofs.Common.{sym}
use Rattle.grid_lines.proofs.AcrossLemmas.{across}
use Rattle.grid_lines.proofs.set.set_col.Goals as goal
use Rattle.grid.proofs.ColEditLemmas.{across-back}

pub returns-clause-cols : goal.returns-clause-cols
returns-clause-cols g c =
    rw (sym (across _ _ c.transpose.ensures.rows), across-back _ _ c.set_row.new.grid.table c.transpose-2.ensures.rows) c.set_row.ensures.rows
