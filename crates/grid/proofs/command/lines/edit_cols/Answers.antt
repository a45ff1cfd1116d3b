use Rattle.grid.proofs.Lemmas.{rows-across, cols-across, crossed_edit}
use Rattle.grid.proofs.command.lines.edit_cols.Goals as goal

pub returns-clause-edited : goal.returns-clause-edited
returns-clause-edited g c =
    crossed_edit _ _ _ c.args.grid.now c.transpose.new.self c.edit_rows-edited.new.grid c.transpose-2.new.self c.edit_rows-edited.result
    c.transpose.ensures.rows c.transpose.ensures.order c.edit_rows-edited.ensures.edited c.transpose-2.ensures.rows c.transpose-2.ensures.order

pub returns-clause-counted : goal.returns-clause-counted
returns-clause-counted g c =
    let t = c.args.grid.now.table in
    let w = c.edit_rows-edited.ensures.counted in
    record {
      symmetry = w.symmetry;
      shift =
          rw (c.transpose.ensures.order, c.transpose.ensures.rows, rows-across c.args.grid.now.rows t, cols-across c.args.grid.now.rows t) at w.shift;
      err_shift = w.err_shift;
    }
