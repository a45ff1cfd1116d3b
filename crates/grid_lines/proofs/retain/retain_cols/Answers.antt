-- The rows of the transposed table.
use Rattle.std.proofs.Common.{sym}
use Rattle.grid_lines.proofs.AcrossLemmas.{across}
use Rattle.grid_lines.proofs.retain.retain_cols.Goals as goal
use Rattle.grid.proofs.ColEditLemmas.{across-back}

pub returns-clause-cols : goal.returns-clause-cols
returns-clause-cols g c =
    rw (sym (across _ _ c.transpose.ensures.rows), across-back _ _ c.retain_rows.new.grid.table c.transpose-2.ensures.rows) c.retain_rows.ensures.rows

pub returns-clause-pure : goal.returns-clause-pure
returns-clause-pure g c = λ test says.
    rw (sym (across _ _ c.transpose.ensures.rows), across-back _ _ c.retain_rows.new.grid.table c.transpose-2.ensures.rows) (c.retain_rows.ensures.pure test says)

pub returns-clause-always : goal.returns-clause-always
returns-clause-always g c = λ test says.
    rw (sym (across _ _ c.transpose.ensures.rows), across-back _ _ c.retain_rows.new.grid.table c.transpose-2.ensures.rows) (c.retain_rows.ensures.always test says)
