use Rattle.std.proofs.Common.{◌-◌, ◌++◌, take, drop, ap, ◌∙◌}
use Rattle.grid.proofs.Common.{same_grid_value}
use Rattle.grid_changes.proofs.RollLemmas.{back_again}
use Rattle.grid_changes.proofs.change.put_rows.Goals as goal

pub returns-in-Err-clause-unchanged : goal.returns-in-Err-clause-unchanged
returns-in-Err-clause-unchanged g c =
    let behind = c.rows.result - c.args.at in
    let same = c.in-Err.ensures.fails.unchanged in
    same_grid_value _ _
    (back_again c.args.at behind c.args.grid.now.rows c.requires.point (ap (λ n. n - c.args.at) c.rows.ensures.rows) c.roll_rows.new.grid.rows _ c.roll_rows.ensures.rows
    (c.roll_rows-2.ensures.rows ∙ ap (λ s. drop behind s.rows ++ take behind s.rows) same))
    (c.roll_rows-2.ensures.order ∙ (c.append_rows-put.ensures.order ∙ c.roll_rows.ensures.order))
