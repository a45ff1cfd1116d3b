use Rattle.std.proofs.Common.{◌≡◌, ◌+◌, ◌-◌, ◌*◌, ◌∙◌, sym, ap, arith, ⊎_elim, slice_get}
use Rattle.grid.proofs.Common.{cases_lt, mul-add-lt}
use Rattle.grid.proofs.symmetry.passes.reverse_each_line.Goals as goal

pub loop-line-preserved : goal.loop-line-preserved
loop-line-preserved g c =
    let line = c.loop-line.line in
    let q = c.args.width in
    let before = c.loop-line.invariant in
    let part = c.reverse_for_symmetry.ensures.cells in
    record {
      length_stays = part.length_stays ∙ before.length_stays;
      moved = λ i j li lj.
          ⊎_elim (λ low. part.others (i * q + j) (λ le. absurd (omega (arith, mul-add-lt i q j line low lj))) ∙ before.moved i j low lj)
          (λ high.
          let here : i ≡ line = omega arith in
          ap (λ x. slice_get c.reverse_for_symmetry.new.self (x * q + j)) here
          ∙ (part.moved j lj ∙ (before.rest (line * q + (q - 1 - j)) (omega arith)
          ∙ sym (ap (λ x. slice_get c.args.flat.now (x * q + (q - 1 - j))) here))))
          (cases_lt i line);
      rest = λ k h. part.others k (λ _. omega arith) ∙ before.rest k (omega arith);
      count = omega arith;
      shift = omega arith;
    }
