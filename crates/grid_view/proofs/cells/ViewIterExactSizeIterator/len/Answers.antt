use Rattle.std.proofs.Common.{sym}
use Rattle.grid_view.proofs.CellLemmas.{length_cells}
use Rattle.grid_view.proofs.cells.ViewIterExactSizeIterator.len.Goals as goal

pub returns-clause-value : goal.returns-clause-value
returns-clause-value g c =
    rw (← c.self.view_is) (rw (c.len.ensures.value, c.len-2.ensures.value, c.len-3.ensures.value) (sym (length_cells _ _ _ _ c.self.invariant)))
