use Rattle.std.proofs.Common.{◌≡◌, ◌≢◌, ◌++◌, map, take, codes, List, ap, ◌∙◌, arith, append_assoc, flat_map, take_all}
use Rattle.grid_view.specs.Texts.{numbers, row_line, text_in_width}
use Rattle.grid_view.proofs.TextLemmas.{text_of_lines}
use Rattle.grid_base.specs.Table.{row_count}
use Rattle.grid_view.proofs.view.GridView.pretty.Goals as goal

pub returns : goal.returns
returns g c =
    let w = g.T.Whole.whole in
    let t = c.args.self.now.rows in
    let width = c.in_ok-width.width in
    let lines = λ (u : List (List g.row.T.Denot)). flat_map (λ row. row_line width (map w row)) u in
    let all : take c.loop-row.row t ≡ t = take_all c.loop-row.row t (omega arith) in
    let some : row_count t ≢ 0 = omega arith in
    c.in_ok-push_str-3.ensures.bytes
    ∙ (ap (λ l. l ++ codes "]") (c.loop-row.invariant ∙ ap (λ u. codes "[\n" ++ lines u) all)
    ∙ (append_assoc (codes "[\n") (lines t) (codes "]")
    ∙ (text_of_lines w width t some ∙ ap (λ n. text_in_width n (numbers w t)) c.in_ok-width.ensures.width)))
