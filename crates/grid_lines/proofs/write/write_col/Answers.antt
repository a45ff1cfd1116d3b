-- The rows of the transposed table.
use Rattle.std.proofs.Common.{sym}
use Rattle.grid_lines.proofs.AcrossLemmas.{across}
use Rattle.grid.proofs.ColEditLemmas.{across-back}
use Rattle.grid_lines.proofs.write.write_col.Goals as goal

pub returns-clause-cols : goal.returns-clause-cols
returns-clause-cols g c =
    rw (sym (across _ _ c.transpose.ensures.rows), across-back _ _ c.write_row-count.new.grid.table c.transpose-2.ensures.rows) c.write_row-count.ensures.rows
