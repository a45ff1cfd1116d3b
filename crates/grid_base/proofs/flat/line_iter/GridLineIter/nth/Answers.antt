use Rattle.std.proofs.Common.{◌≤◌, drop, length, min, reverse, ap, arith, sym, ◌∙◌, ◌≡◌}
use Rattle.grid_base.proofs.Common.{cells_left, length-reverse}
use Rattle.grid_base.proofs.Lemmas.{past_most, part_past_most, nth_found, drop-reverse}
use Rattle.grid_base.proofs.flat.line_iter.GridLineIter.nth.Goals.{in-Together, in-Reversed, in-Apart}
use Rattle.grid_base.proofs.flat.line_iter.GridLineIter.nth.Goals as goal

pub returns : goal.returns
returns g c =
    let count = c.min-passed.ensures ∙ ap (min c.args.n) c.len.ensures.value in
    let passed : cells_left c.match-self.self-inside.cells ≡ drop c.args.n c.args.self.now = elim c.match-self.branch [
      | in-Together w ↦ ap (λ i. cells_left i.cells) w.self-inside-is ∙ (w.iter.ensures.rest ∙ part_past_most _ _ _ _ count (w.as_slice.ensures.value ∙ (sym (ap cells_left w.in-Together.is) ∙ c.self.view_is)))
      | in-Reversed w ↦
          let left = w.as_slice-left.result.now in
          let seen : reverse left ≡ c.args.self.now = ap reverse w.as_slice-left.ensures.value ∙ (sym (ap cells_left w.in-Reversed.is) ∙ c.self.view_is) in
          let few : c.min-passed.result ≤ length left = omega (arith, count, ap length seen, length-reverse left) in
          ap (λ i. cells_left i.cells) w.self-inside-is ∙ (ap reverse w.iter-in-Reversed.ensures.rest ∙ (sym (drop-reverse _ left few) ∙ past_most _ _ _ _ count seen))
      | in-Apart w ↦ ap (λ i. cells_left i.cells) w.self-inside-is ∙ (w.pass.ensures ∙ past_most _ _ _ _ count (sym (ap cells_left w.in-Apart.is) ∙ c.self.view_is))
    ] in
    let found = nth_found c.args.n c.args.self.now _ _ _ passed c.next.ensures.steps in
    record { item = found.0; rest = found.1 }
