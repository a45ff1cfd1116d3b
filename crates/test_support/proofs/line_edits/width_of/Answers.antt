use Rattle.std.proofs.Common.{◌<◌, [], length, ◌∙◌, ap, arith}
use Rattle.grid.specs.Prelude.{items_of_each}
use Rattle.std.proofs.lemmas.List.{get_or-map}
use Rattle.grid_base.proofs.GatherLemmas.{rows-vecs}
use Rattle.grid.proofs.RowEditLemmas.{HasWidth}
use Rattle.grid.proofs.EditSizeLemmas.{IsTable-width}
use Rattle.test_support.proofs.line_edits.width_of.Goals as goal

pub returns-then-all_of_length : goal.returns-then-all_of_length
returns-then-all_of_length g c =
    let lines = c.args.lines.now in
    let widths : HasWidth (items_of_each lines) c.len-width.result =
    (λ r lt.
    let within : r < length lines = omega (arith, rows-vecs lines, lt) in
    ap length (get_or-map (λ line. line.items) lines r c.in-Some.line.now [] within) ∙ c.all_of_length.ensures c.if-all_of_length.true r c.in-Some.line.now within) in
    (IsTable-width (items_of_each lines) c.len-width.result (omega arith) widths, widths 0 (omega (arith, rows-vecs lines, c.in-Some.ensures.item.3.0)))
