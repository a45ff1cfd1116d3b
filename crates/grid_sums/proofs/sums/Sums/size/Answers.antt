use Rattle.std.proofs.Common.{sym, ◌∙◌, ap}
use Rattle.grid_base.proofs.Common.{row_count, col_count}
use Rattle.grid_sums.proofs.SumLemmas.{numbers_rows, numbers_cols}
use Rattle.grid_sums.proofs.sums.Sums.size.Goals as goal

pub returns-clause-rows : goal.returns-clause-rows
returns-clause-rows g c = sym (numbers_rows c.self.inside.rows c.self.inside.cols c.self.inside.corners.items) ∙ ap row_count c.self.view_is

pub returns-clause-cols : goal.returns-clause-cols
returns-clause-cols g c = sym (numbers_cols c.self.inside.rows c.self.inside.cols c.self.inside.corners.items c.self.invariant.size) ∙ ap col_count c.self.view_is
