use Rattle.std.proofs.Common.{ap, ◌∙◌, length}
use Rattle.grid_changes.proofs.StepLemmas.{past_count}
use Rattle.grid_changes.proofs.history.History.undo_count.Goals as goal

pub returns : goal.returns
returns g c = past_count _ _ _ c.self.invariant ∙ ap (λ v. length v.past) c.self.view_is
