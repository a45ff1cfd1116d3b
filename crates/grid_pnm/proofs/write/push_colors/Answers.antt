-- One cell more.
use Rattle.std.proofs.Common.{◌≡◌, ◌++◌, ◌∙◌, ◌∷◌, [], ℕ, List, ap, sym, subst, refl, append-nil, length, rules}
use Rattle.grid_base.proofs.Common.{AllZip, flat_map-append, concat_rows}
use Rattle.grid_pnm.specs.Writing.{AnswersColor}
use Rattle.grid_pnm.proofs.WriteLemmas.{part_may}
use Rattle.grid_pnm.proofs.write.push_colors.Goals as goal

pub loop-cell-preserved : goal.loop-cell-preserved
loop-cell-preserved g c =
    let R = AnswersColor (goal.F-post g) c.args.write.now in
    let three : length c.write.result ≡ 3 = search rules in
    part_may R concat_rows (λ bytes. (colors : List (List ℕ)) × AllZip R c.args.row colors × (bytes ≡ c.args.bytes.now.items ++ concat_rows colors)) (flat_map-append (λ color. color)) _ (_ ∷ []) _ (_ ∷ []) _ _ c.loop-cell.invariant c.in-Some.ensures.steps (((_, refl, c.write.ensures), three), tt) (c.in_ok-extend_from_slice.ensures.items ∙ ap (λ x. c.loop-cell.bytes.items ++ x) (sym (append-nil c.write.result)))

pub returns : goal.returns
returns g c =
    let all = c.loop-cell.invariant [] (subst (λ row. AllZip (AnswersColor (goal.F-post g) c.args.write.now) row []) (sym c.in-None.ensures.steps.0) tt) in
    (all.0, all.1, sym (append-nil c.loop-cell.bytes.items) ∙ all.2)
