-- One row more, and its line feed.
use Rattle.std.proofs.Common.{◌≡◌, ◌∙◌, ◌<◌, ◌≤◌, ◌++◌, [], refl, ap, sym, subst, append-nil, arith, string_bytes}
use Rattle.std.proofs.Math.ListN.{drop_of_length-le}
use Rattle.std.proofs.lemmas.List.{drop_more}
use Rattle.grid_text.proofs.Common.{AnswersCell, MayWriteRows, row_count}
use Rattle.grid_text.proofs.Lemmas.{row_may, rows_written}
use Rattle.grid_text.proofs.write.to_text.Goals as goal

pub loop-r-init : goal.loop-r-init
loop-r-init g c = λ rest m.
    let text : rest ≡ string_bytes c.in_ok-text.text ++ rest = ap (λ x. x ++ rest) (sym c.in_ok-text.ensures.bytes) in
    subst (MayWriteRows (AnswersCell (goal.F-post g) c.args.write) c.as_view-view.result.rows) text m

pub loop-r-preserved : goal.loop-r-preserved
loop-r-preserved g c =
    let t = c.as_view-view.result.rows in
    let line = c.in_ok-push_row.ensures in
    let lt : c.loop-r.r < row_count t = omega (arith, c.size-rows.ensures.rows, c.loop-r-test) in
    row_may (AnswersCell (goal.F-post g) c.args.write) _ _ _ _ _ _ _ _ c.loop-r.invariant (drop_more t c.loop-r.r [] lt) line.1 line.2 c.in_ok-push.ensures.bytes

pub returns-clause-answers : goal.returns-clause-answers
returns-clause-answers g c =
    let t = c.as_view-view.result.rows in
    let all : row_count t ≤ c.loop-r.r = omega (arith, c.size-rows.ensures.rows, c.loop-r-test) in
    let whole = c.loop-r.invariant [] (subst (λ rows. MayWriteRows (AnswersCell (goal.F-post g) c.args.write) rows []) (sym (drop_of_length-le t all)) refl) in
    subst (λ rows. MayWriteRows (AnswersCell (goal.F-post g) c.args.write) rows (string_bytes c.loop-r.text)) c.as_view-view.ensures (subst (MayWriteRows (AnswersCell (goal.F-post g) c.args.write) t) (append-nil (string_bytes c.loop-r.text)) whole)

pub returns-clause-text : goal.returns-clause-text
returns-clause-text g c = λ h by. rows_written (AnswersCell (goal.F-post g) c.args.write) h (λ x ch said. by said.0 ch said.2 ∙ ap h said.1) (g.V.AsView.rows c.args.board.now) _ (returns-clause-answers g c)
