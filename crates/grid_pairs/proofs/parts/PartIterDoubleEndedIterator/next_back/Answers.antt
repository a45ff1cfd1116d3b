use Rattle.std.proofs.Common.{◌<◌, sym, ◌∙◌, arith}
use Rattle.grid_view.proofs.PlacedLemmas.{shorter_back}
use Rattle.grid_pairs.proofs.PartLemmas.{last_parts}
use Rattle.grid_pairs.proofs.parts.PartIterDoubleEndedIterator.next_back.Goals as goal

pub returns-clause-steps : goal.returns-clause-steps
returns-clause-steps g c =
    let s = c.self.inside in
    let some : 0 < s.left = omega (arith, c.if-self-eq0.false) in
    sym c.self.view_is
    ∙ last_parts s.board.rows s.step s.size s.whole s.count s.row s.col s.left c.self.invariant some c.part_from.result.rows c.part_from.ensures

pub returns-clause-goes : goal.returns-clause-goes
returns-clause-goes g c =
    let less = shorter_back _ _ _ (returns-clause-steps g c) in
    record { on = λ _. (tt, tt, omega (arith, less)); keeps = tt; rests = λ _. tt }
