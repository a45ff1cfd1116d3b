use Rattle.std.proofs.Common.{ap, sym, ◌∙◌, length}
use Rattle.grid_pairs.proofs.PartLemmas.{length-parts_from}
use Rattle.grid_pairs.proofs.parts.PartIterExactSizeIterator.len.Goals as goal

pub returns-clause-value : goal.returns-clause-value
returns-clause-value g c =
    let s = c.self.inside in
    sym (length-parts_from s.board.rows s.step s.size s.whole s.count s.row s.col s.left c.self.invariant) ∙ ap length c.self.view_is
