-- One cell more.
use Rattle.std.proofs.Common.{◌≡◌, ◌∙◌, ◌<◌, ◌≤◌, ◌+◌, ◌∷◌, [], sym, subst, refl, append-nil, drop, length, arith, string_bytes}
use Rattle.std.proofs.Math.ListN.{drop_of_length-le}
use Rattle.std.proofs.lemmas.List.{drop_more}
use Rattle.grid_text.proofs.Common.{AnswersCell, MayWriteLine}
use Rattle.grid_text.proofs.Lemmas.{cell_more}
use Rattle.grid_text.proofs.write.push_stored.Goals as goal

pub loop-cell-init : goal.loop-cell-init
loop-cell-init g c = λ rest m. (rest, m, refl)

pub loop-cell-preserved : goal.loop-cell-preserved
loop-cell-preserved g c =
    let i = c.loop-cell.cell-index in
    let lt : i < length c.args.cells.now = omega arith in
    let more : drop i c.args.cells.now ≡ c.cell-item.result ∷ drop (i + 1) c.args.cells.now =
    rw (drop_more c.args.cells.now i c.cell-item.result lt, ← c.cell-item.is) refl in
    cell_more (AnswersCell (goal.F-post g) c.args.write.now) _ _ _ _ _ _ _ _ c.loop-cell.invariant more (_, refl, c.write.ensures) c.in_ok-push.ensures.bytes

pub returns : goal.returns
returns g c =
    let all : length c.args.cells.now ≤ c.loop-cell.cell-index = omega arith in
    let h = c.loop-cell.invariant [] (subst (λ row. MayWriteLine (AnswersCell (goal.F-post g) c.args.write.now) row []) (sym (drop_of_length-le c.args.cells.now all)) refl) in
    (h.0, h.1, sym (append-nil (string_bytes c.loop-cell.text)) ∙ h.2)
