-- One row more.
use Rattle.std.proofs.Common.{[], ap, sym, subst, ◌∙◌, append-nil}
use Rattle.grid_base.proofs.Common.{AllZip, flat_map-append, concat_rows}
use Rattle.grid_pnm.specs.Writing.{AnswersColor, MayDrawColors}
use Rattle.grid_pnm.proofs.WriteLemmas.{part_may, drawn_colors}
use Rattle.grid_pnm.proofs.write.to_ppm.Goals as goal

pub loop-row-preserved : goal.loop-row-preserved
loop-row-preserved g c =
    let R = AnswersColor (goal.F-post g) c.args.write in
    let (colors, answered, put) = c.in_ok-push_colors.ensures in
    part_may R concat_rows (MayDrawColors R (g.V.AsView.rows c.args.board.now)) (flat_map-append (λ color. color)) _ _ _ colors _ _ c.loop-row.invariant (ap concat_rows c.in-Some.ensures.steps) answered put

pub returns-clause-answers : goal.returns-clause-answers
returns-clause-answers g c =
    let R = AnswersColor (goal.F-post g) c.args.write in
    let all = c.loop-row.invariant [] (subst (λ rows. AllZip R (concat_rows rows) []) (sym c.in-None.ensures.steps.0) tt) in
    subst (MayDrawColors R (g.V.AsView.rows c.args.board.now)) (append-nil c.loop-row.bytes.items) all

pub returns-clause-picture : goal.returns-clause-picture
returns-clause-picture g c = λ h by. drawn_colors (AnswersColor (goal.F-post g) c.args.write) h (λ x y said. by said.0.0 y said.0.2 ∙ ap h said.0.1) (g.V.AsView.rows c.args.board.now) _ (returns-clause-answers g c)
