-- One row more, or all cells at once.
use Rattle.std.proofs.Common.{◌≡◌, ◌∙◌, ◌++◌, [], ℕ, List, ap, sym, subst, refl, codes, append-nil}
use Rattle.grid_base.proofs.Common.{AllZip, row_count, col_count, concat_rows}
use Rattle.grid_pnm.specs.Writing.{AnswersCell, MayDrawGrays, raw_picture}
use Rattle.grid_pnm.proofs.WriteLemmas.{part_may, drawn_grays}
use Rattle.grid_pnm.proofs.write.to_pgm.Goals as goal

pub loop-row-preserved : goal.loop-row-preserved
loop-row-preserved g c =
    let R = AnswersCell (goal.F-post g) c.args.write in
    let (samples, answered, put) = c.in_ok-push_grays.ensures in
    part_may R (λ samples. samples) (MayDrawGrays R (g.V.AsView.rows c.args.board.now)) (λ xs ys. refl) _ _ _ samples _ _ c.loop-row.invariant (ap concat_rows c.in-Some-row.ensures.steps) answered put

pub returns-clause-answers : goal.returns-clause-answers
returns-clause-answers g c =
    let R = AnswersCell (goal.F-post g) c.args.write in
    let all = c.loop-row.invariant [] (subst (λ rows. AllZip R (concat_rows rows) []) (sym c.in-None.ensures.steps.0) tt) in
    subst (MayDrawGrays R (g.V.AsView.rows c.args.board.now)) (append-nil c.loop-row.bytes.items) all

pub returns-clause-picture : goal.returns-clause-picture
returns-clause-picture g c = λ h by. drawn_grays (AnswersCell (goal.F-post g) c.args.write) h (λ x y said. by said.0 y said.2 ∙ ap h said.1) (g.V.AsView.rows c.args.board.now) _ (returns-clause-answers g c)

pub returns-in-Some-clause-answers : goal.returns-in-Some-clause-answers
returns-in-Some-clause-answers g c =
    let R = AnswersCell (goal.F-post g) c.args.write in
    let rows = g.V.AsView.rows c.args.board.now in
    let seen = c.as_view-view.ensures in
    let cells : c.in-Some.cells.now ≡ concat_rows rows = c.in-Some.ensures ∙ ap concat_rows seen in
    let drawn : (samples : List ℕ) → c.in_ok-bytes.bytes.items ++ samples ≡ raw_picture (codes "P5") (row_count rows) (col_count rows) samples =
    λ samples. c.in_ok-bytes.ensures samples
    ∙ (ap (λ m. raw_picture (codes "P5") m c.size-rows.result.1 samples) (c.size-rows.ensures.rows ∙ ap row_count seen)
    ∙ ap (λ n. raw_picture (codes "P5") (row_count rows) n samples) (c.size-rows.ensures.cols ∙ ap col_count seen)) in
    let (samples, answered, put) = c.in_ok-push_all.ensures in
    record { samples = samples; are_samples = subst (λ xs. AllZip R xs samples) cells answered; is_picture = put ∙ drawn samples }

pub returns-in-Some-clause-picture : goal.returns-in-Some-clause-picture
returns-in-Some-clause-picture g c = λ h by. drawn_grays (AnswersCell (goal.F-post g) c.args.write) h (λ x y said. by said.0 y said.2 ∙ ap h said.1) (g.V.AsView.rows c.args.board.now) _ (returns-in-Some-clause-answers g c)
