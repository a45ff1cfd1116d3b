use Rattle.std.proofs.Common.{ap}
use Rattle.grid.proofs.Common.{same_grid_value, on_ok_weaker}
use Rattle.grid_changes.proofs.history.History.step_to.Goals as goal

pub returns-clause-grid : goal.returns-clause-grid
returns-clause-grid g c = on_ok_weaker c.record.result (λ e. same_grid_value _ _ (ap (λ b. b.rows) e) (ap (λ b. b.order) e)) c.record.ensures.made
