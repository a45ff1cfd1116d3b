use Rattle.std.proofs.Common.{◌<◌, arith, ap, length, refl, sym, ◌∙◌}
use Rattle.grid_base.proofs.Lemmas.{place_and_rest}
use Rattle.grid_base.proofs.PlaceLemmas.{none_left}
use Rattle.grid_base.proofs.flat.positions.PositionsIterator.next.Goals as goal
use Rattle.grid_base.proofs.flat.positions.PositionsIterator.next.Goals.{else-self-via-then-self+else-self-2, else-self-via-else-self}

pub pass-requires : goal.pass-requires
pass-requires c =
    let s = c.self.inside in
    omega (arith, ap length c.self.view_is, ap length (place_and_rest s.layout.order s.layout.rows s.layout.cols s.row s.col _ c.self.invariant.size c.if-self.true c.if-self-2.true refl))

pub returns-then-self-2-clause-steps : goal.returns-then-self-2-clause-steps
returns-then-self-2-clause-steps c = c.pass.ensures

pub returns-then-self-2-clause-goes : goal.returns-then-self-2-clause-goes
returns-then-self-2-clause-goes c =
    let e = ap length c.pass.ensures in
    record { on = λ _. (tt, tt, omega (arith, e)); keeps = tt; rests = λ _. tt }

pub returns-else-self-clause-steps : goal.returns-else-self-clause-steps
returns-else-self-clause-steps c =
    let s = c.self.inside in
    let past : (s.row < s.layout.rows × s.col < s.layout.cols) → ⊥ = elim c.else-self.branch [
      | else-self-via-then-self+else-self-2 w ↦ λ h. (let lt = h.1 in absurd (omega (arith, w.if-self-2.false)))
      | else-self-via-else-self w ↦ λ h. (let lt = h.0 in absurd (omega (arith, w.if-self.false)))
    ] in
    let e = sym c.self.view_is ∙ none_left s.layout.order s.layout.rows s.layout.cols s.row s.col c.self.invariant past in
    (e, e)
