-- The rows of the transposed table.
use Rattle.std.proofs.Common.{sym}
use Rattle.grid_lines.proofs.AcrossLemmas.{across}
use Rattle.grid_lines.proofs.roll.roll_cols.Goals as goal
use Rattle.grid.proofs.ColEditLemmas.{across-back}

pub returns-clause-cols : goal.returns-clause-cols
returns-clause-cols g c =
    rw (sym (across _ _ c.transpose.ensures.rows), across-back _ _ c.roll_rows.new.grid.table c.transpose-2.ensures.rows) c.roll_rows.ensures.rows
