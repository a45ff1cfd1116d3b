use Rattle.std.proofs.Common.{sym, ap, ◌∙◌, length}
use Rattle.grid_base.proofs.SteppedLemmas.{length-stepped}
use Rattle.grid_base.proofs.flat.stepped_iter.SteppedIterExactSizeIterator.len.Goals as goal

pub returns-clause-value : goal.returns-clause-value
returns-clause-value g c = sym (length-stepped _ _ _ _ c.self.invariant) ∙ ap length c.self.view_is
