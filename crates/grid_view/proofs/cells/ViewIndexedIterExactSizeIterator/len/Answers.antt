use Rattle.std.proofs.Common.{sym, ◌∙◌, length, ap}
use Rattle.grid_view.proofs.PlacedLemmas.{length-placed}
use Rattle.grid_view.proofs.cells.ViewIndexedIterExactSizeIterator.len.Goals as goal

pub returns-clause-value : goal.returns-clause-value
returns-clause-value g c =
    c.len.ensures.value ∙ (sym (length-placed _ _ _ _ _ c.self.invariant) ∙ ap length c.self.view_is)
