use Rattle.std.proofs.Common.{rules, arith}
use Rattle.grid_laws.proofs.Common.{common_steps, on_ok_weaker, same_grid_value}
use Rattle.grid_laws.proofs.grids.push_row_then_pop_row.Goals as goal

pub returns-clause-grid : goal.returns-clause-grid
returns-clause-grid g c =
    on_ok_weaker c.pop_row.result (λ rows. same_grid_value _ _ (grind (arith, common_steps)) (search rules)) c.pop_row.ensures.rows
