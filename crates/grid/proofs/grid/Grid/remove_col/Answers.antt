use Rattle.grid_base.specs.declared.words.Symmetry.TheVariants.{Transpose}
use Rattle.grid.proofs.Common.{rows-act, act_is_transposed, on_ok_weaker, on_err_weaker}
use Rattle.grid.proofs.Lemmas.{col_removed, twice_across}
use Rattle.grid.proofs.grid.Grid.remove_col.Goals as goal

pub returns-clause-rows : goal.returns-clause-rows
returns-clause-rows g c =
    on_ok_weaker c.remove_row-removed.result (col_removed c.args.at _ _ _ _ c.args.self.now.table c.transpose.ensures.rows c.transpose-2.ensures.rows)
    c.remove_row-removed.ensures.rows

pub returns-clause-line : goal.returns-clause-line
returns-clause-line g c =
    rw (c.transpose.ensures.rows, rows-act Transpose c.args.self.now.rows, act_is_transposed c.args.self.now.rows) at c.remove_row-removed.ensures.line

pub returns-clause-err : goal.returns-clause-err
returns-clause-err g c =
    on_err_weaker c.remove_row-removed.result
    (λ same. twice_across _ _ _ _ c.args.self.now.table c.transpose.ensures.rows c.transpose.ensures.order same c.transpose-2.ensures.rows c.transpose-2.ensures.order)
    c.remove_row-removed.ensures.err

pub returns-clause-err_found : goal.returns-clause-err_found
returns-clause-err_found g c = rw (c.transpose.ensures.rows, rows-act Transpose c.args.self.now.rows) at c.remove_row-removed.ensures.err_found
