use Rattle.std.proofs.Common.{◌<◌, ◌+◌, Some, length, refl, arith, ap, ◌∙◌}
use Rattle.grid_base.proofs.Common.{slice_get_read}
use Rattle.grid_pairs.proofs.AnswerLemmas.{replaced_more}
use Rattle.grid_pairs.proofs.update.update_seen.Goals as goal

pub loop-col-preserved : goal.loop-col-preserved
loop-col-preserved g c =
    let k = c.loop-col.col in
    let at = c.args.start + k in
    let cells = c.loop-col.cells in
    let i = c.loop-col.invariant in
    let lt : at < length cells = omega (arith, i.len, c.requires.within, c.cols-col-end.ensures) in
    replaced_more _ _ c.args.start k _ _ cells c.f.result i lt
    (_, _, slice_get_read cells (length cells) at _ refl lt c.index-cells-start.is ∙ ap Some c.index-cells-start.is, c.get_unchecked.ensures, c.f.ensures)
