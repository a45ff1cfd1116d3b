use Rattle.std.proofs.Common.{sym, ◌∙◌, arith}
use Rattle.grid_rays.proofs.SegmentLemmas.{given_last, given_next}
use Rattle.grid_rays.proofs.straight.SegmentIterIterator.next.Goals as goal

pub returns-then-self-eq0-clause-steps : goal.returns-then-self-eq0-clause-steps
returns-then-self-eq0-clause-steps c =
    sym c.self.view_is ∙ given_last _ _ _ _ _ _ _ c.self.invariant c.if-self.false c.if-self-eq0.true

pub returns-else-self-eq0-clause-steps : goal.returns-else-self-eq0-clause-steps
returns-else-self-eq0-clause-steps c =
    let rows = c.stepped-self-inside.ensures in
    let cols = c.stepped-self-inside-else-self-eq0.ensures in
    sym c.self.view_is ∙ rw (rows.from, rows.to, cols.from, cols.to) (given_next _ _ _ _ _ _ _ c.self.invariant c.if-self.false (omega arith))
