-- One cell more.
use Rattle.std.proofs.Common.{◌∙◌, [], sym, subst, refl, append-nil, string_bytes}
use Rattle.grid_text.proofs.Common.{AnswersCell, MayWriteLine}
use Rattle.grid_text.proofs.Lemmas.{cell_more}
use Rattle.grid_text.proofs.write.push_seen.Goals as goal

pub loop-cell-init : goal.loop-cell-init
loop-cell-init g c = λ rest m. (rest, subst (λ row. MayWriteLine (AnswersCell (goal.F-post g) c.args.write.now) row rest) c.into_iter-cell-iterator.ensures.into_iter_gives m, refl)

pub loop-cell-preserved : goal.loop-cell-preserved
loop-cell-preserved g c = cell_more (AnswersCell (goal.F-post g) c.args.write.now) _ _ _ _ _ _ _ _ c.loop-cell.invariant c.in-Some.ensures.steps (_, refl, c.write.ensures) c.in_ok-push.ensures.bytes

pub returns : goal.returns
returns g c =
    let h = c.loop-cell.invariant [] (subst (λ row. MayWriteLine (AnswersCell (goal.F-post g) c.args.write.now) row []) (sym c.in-None.ensures.steps.0) refl) in
    (h.0, h.1, sym (append-nil (string_bytes c.loop-cell.text)) ∙ h.2)
