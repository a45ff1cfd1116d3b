use Rattle.std.proofs.Common.{rules, ◌≡◌, ◌++◌, [], ◌∷◌, ℤ, map, take, codes, sym, ap, ◌∙◌, arith, string_bytes, to_z, of_z, append_assoc, cond, ltb, ◌^◌, ◌-◌}
use Rattle.grid_base.proofs.Common.{w128, join_by, styled_signed_decimal, format_spec, to_z-of_z, row}
use Rattle.grid_view.specs.Texts.{right_aligned}
use Rattle.grid_view.proofs.TextLemmas.{join_next, aligned, whole_row, ended}
use Rattle.grid_view.proofs.view.GridView.push_row_line.Goals as goal

pub loop-col-preserved : goal.loop-col-preserved
loop-col-preserved g c =
    let w = g.T.Whole.whole in
    let width = c.args.width in
    let line = row c.args.self.now.rows c.args.r in
    let i = c.loop-col.col in
    let x = c.get_unchecked.result.now in
    let z = c.to_whole-number.result in
    let item = λ (n : ℤ). codes " " ++ right_aligned width n in
    let old = string_bytes c.args.text.now in
    let front = join_by item (codes ",") (map w (take i line)) in
    let same : to_z w128 (of_z w128 z) ≡ z = to_z-of_z w128 z (record { sfits = c.to_whole-number.type_inv }) in
    let number : styled_signed_decimal c.laid_out.result (to_z w128 (of_z w128 z)) ≡ right_aligned width (w x) =
    ap (λ s. styled_signed_decimal s (to_z w128 (of_z w128 z))) c.laid_out.ensures
    ∙ (ap (styled_signed_decimal (format_spec 32 3 0 width (2 ^ 64 - 1))) (same ∙ c.to_whole-number.ensures) ∙ aligned width (w x)) in
    let next = join_next w item (codes ",") line i x c.get_unchecked.ensures in
    let pushed : string_bytes c.write.new.self ≡ string_bytes c.loop-col.text ++ (cond (ltb 0 i) (codes ",") [] ++ item (w x)) =
    c.in_ok-write.ensures.bytes
    ∙ (ap (λ l. string_bytes c.loop-col.text ++ (l ++ 32 ∷ styled_signed_decimal c.laid_out.result (to_z w128 (of_z w128 z)))) c.separator_before-comma.ensures
    ∙ ap (λ l. string_bytes c.loop-col.text ++ (cond (ltb 0 i) (codes ",") [] ++ 32 ∷ l)) number) in
    pushed
    ∙ (ap (λ l. l ++ (cond (ltb 0 i) (codes ",") [] ++ item (w x))) c.loop-col.invariant
    ∙ (append_assoc old (codes "    [" ++ front) (cond (ltb 0 i) (codes ",") [] ++ item (w x))
    ∙ ap (λ l. old ++ (codes "    [" ++ l)) (sym next)))

pub returns : goal.returns
returns g c =
    let w = g.T.Whole.whole in
    let width = c.args.width in
    let t = c.args.self.now.rows in
    let line = row t c.args.r in
    let item = λ (n : ℤ). codes " " ++ right_aligned width n in
    let all : take c.loop-col.col line ≡ line = whole_row t c.args.r c.loop-col.col c.args.self.now.table c.requires (omega arith) in
    let before = c.loop-col.invariant ∙ ap (λ l. string_bytes c.args.text.now ++ (codes "    [" ++ join_by item (codes ",") (map w l))) all in
    ended c.push_str-2.result _ _ _ _ _ c.push_str-2.ensures.bytes before

pub returns-in_err-push_str : goal.returns-in_err-push_str
returns-in_err-push_str g c = search rules

pub returns-in_err-write : goal.returns-in_err-write
returns-in_err-write g c = search rules
