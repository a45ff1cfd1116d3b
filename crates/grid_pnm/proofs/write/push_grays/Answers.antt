-- One cell more.
use Rattle.std.proofs.Common.{◌≡◌, ◌++◌, ◌∙◌, ◌∷◌, [], ℕ, List, ap, sym, subst, refl, append-nil, length, arith}
use Rattle.std.specs.List.{AllZip}
use Rattle.grid_pnm.specs.Writing.{AnswersCell}
use Rattle.grid_pnm.proofs.WriteLemmas.{part_may}
use Rattle.grid_pnm.proofs.write.push_grays.Goals as goal

pub loop-cell-preserved : goal.loop-cell-preserved
loop-cell-preserved g c =
    let R = AnswersCell (goal.F-post g) c.args.write.now in
    let p = c.push_reserved.ensures in
    record {
      room = grind (arith, p.len, p.capacity, ap length c.in-Some.ensures.steps, c.loop-cell.invariant.room);
      may = part_may R (λ samples. samples) (λ bytes. (samples : List ℕ) × AllZip R c.args.row samples × (bytes ≡ c.args.bytes.now.items ++ samples)) (λ xs ys. refl) _ (_ ∷ []) _ (_ ∷ []) _ _ c.loop-cell.invariant.may c.in-Some.ensures.steps ((_, refl, c.write.ensures), tt) p.items;
    }

pub returns : goal.returns
returns g c =
    let all = c.loop-cell.invariant.may [] (subst (λ row. AllZip (AnswersCell (goal.F-post g) c.args.write.now) row []) (sym c.in-None.ensures.steps.0) tt) in
    (all.0, all.1, sym (append-nil c.loop-cell.bytes.items) ∙ all.2)
