use Rattle.std.proofs.Common.{List, ◌≡◌, ◌∷◌, ◌∙◌, ◌-◌, Some, take, drop, length, sym, ap, arith, refl, slice_get}
use Rattle.grid_base.proofs.Common.{every}
use Rattle.grid_base.proofs.Lemmas.{line_step}
use Rattle.grid_base.proofs.flat.line_iter_mut.GridLineIterMutIterator.next.Goals as goal

pub returns-clause-steps : goal.returns-clause-steps
returns-clause-steps g c =
    let s = c.args.self.now in
    let taken : c.take-rest.result.now ≡ s.rest.now = cc c.take-rest.ensures.value in
    let first : slice_get s.rest.now 0 ≡ Some c.step_along-cell.result.0.now =
    ap (λ (xs : List g.row.T.Denot). slice_get xs 0) (sym taken) ∙ c.step_along-cell.ensures.first in
    let rest : c.step_along-cell.result.2.now ≡ drop s.stride s.rest.now = c.step_along-cell.ensures.rest ∙ ap (drop s.stride) taken in (
      line_step s.stride s.rest.now c.step_along-cell.result.0.now s.steps first ∙ ap (λ xs. c.step_along-cell.result.0.now ∷ every 0 (s.stride - 1) xs) (sym rest),
      (c.step_along-cell.ensures.passed ∙ ap (λ xs. drop 1 (take s.stride xs)) taken, rest),
      refl,
    )

pub returns-clause-goes : goal.returns-clause-goes
returns-clause-goes g c =
    let steps = returns-clause-steps g c in
    let e = ap length steps.0 in
    record { on = λ _. (tt, tt, omega (arith, e)); keeps = tt; rests = λ _. tt }
