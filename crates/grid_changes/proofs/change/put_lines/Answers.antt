use Rattle.grid.proofs.Common.{on_err_weaker}
use Rattle.grid.proofs.TransposedEditLemmas.{twice_across}
use Rattle.grid_changes.proofs.change.put_lines.Goals as goal

pub returns-in-Col-clause-unchanged : goal.returns-in-Col-clause-unchanged
returns-in-Col-clause-unchanged g c =
    let there = c.transpose.ensures in
    let back = c.transpose-in-Col.ensures in
    on_err_weaker c.put_rows-put.result
    (λ same. twice_across c.args.grid.now c.transpose.new.self c.put_rows-put.new.grid c.transpose-in-Col.new.self c.args.grid.now.table there.rows there.order same back.rows back.order)
    c.put_rows-put.ensures.unchanged
