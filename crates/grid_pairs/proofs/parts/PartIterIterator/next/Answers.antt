use Rattle.std.proofs.Common.{◌<◌, sym, ◌∙◌, ap, length, arith}
use Rattle.grid_pairs.proofs.PartLemmas.{next_parts}
use Rattle.grid_pairs.proofs.parts.PartIterIterator.next.Goals as goal

pub returns-clause-steps : goal.returns-clause-steps
returns-clause-steps g c =
    let s = c.self.inside in
    let some : 0 < s.left = omega (arith, c.if-self-eq0.false) in
    sym c.self.view_is
    ∙ next_parts s.board.rows s.step s.size s.whole s.count s.row s.col s.left c.self.invariant some c.place_after-row.result.0 c.place_after-row.result.1 c.place_after-row.ensures.after c.part_from-part.result.rows c.part_from-part.ensures

pub returns-clause-goes : goal.returns-clause-goes
returns-clause-goes g c =
    let e = ap length (returns-clause-steps g c) in
    record { on = λ _. (tt, tt, omega (arith, e)); keeps = tt; rests = λ _. tt }
