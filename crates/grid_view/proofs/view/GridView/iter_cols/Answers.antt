use Rattle.std.proofs.Common.{rules, ◌∙◌}
use Rattle.grid_view.proofs.view.GridView.iter_cols.Goals as goal

pub returns-clause-gives : goal.returns-clause-gives
returns-clause-gives = search rules

pub returns-clause-heights : goal.returns-clause-heights
returns-clause-heights g c k d lt = c.iter_rows.ensures.widths k d lt ∙ c.transposed.ensures.size.cols
