use Rattle.std.proofs.Common.{ap, ◌∙◌, length, arith}
use Rattle.grid_changes.proofs.StepLemmas.{future_count}
use Rattle.grid_changes.proofs.history.History.redo_count.Goals as goal

pub returns : goal.returns
returns g c =
    let ahead = future_count _ _ _ c.self.invariant ∙ ap (λ v. length v.future) c.self.view_is in
    omega (arith, ahead, c.len.ensures)
