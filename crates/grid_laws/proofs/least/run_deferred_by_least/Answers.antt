use Rattle.grid_laws.proofs.Common.{IfOk-weaker, IfErr-weaker}
use Rattle.grid_laws.proofs.Lemmas.{grew_deferred}
use Rattle.grid_laws.proofs.least.run_deferred_by_least.Goals as goal

pub returns-clause-least : goal.returns-clause-least
returns-clause-least g c = IfOk-weaker c.run_deferred.result _ _ (λ replies r. grew_deferred _ _ _ _ _ _ _ _ r) c.run_deferred.ensures.gives.ran

pub returns-clause-stopped_least : goal.returns-clause-stopped_least
returns-clause-stopped_least g c = IfErr-weaker c.run_deferred.result _ _ (λ stop r. grew_deferred _ _ _ _ _ _ _ _ r) c.run_deferred.ensures.gives.stopped
