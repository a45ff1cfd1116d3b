use Rattle.std.proofs.Common.{◌<◌, ◌+◌, Some, length, refl, arith, ap, ◌∙◌}
use Rattle.grid_base.proofs.Common.{slice_get_read}
use Rattle.grid_pairs.proofs.AnswerLemmas.{replaced_more}
use Rattle.grid_pairs.proofs.update.update_stored.Goals as goal

pub loop-k-preserved : goal.loop-k-preserved
loop-k-preserved g c =
    let k = c.loop-k.k in
    let at = c.args.start + k in
    let cells = c.loop-k.cells in
    let others = c.args.others.now in
    let i = c.loop-k.invariant in
    let lt : at < length cells = omega (arith, i.len, c.requires.within) in
    replaced_more _ _ c.args.start k _ _ cells c.f.result i lt
    (_, _, slice_get_read cells (length cells) at _ refl lt c.index-cells-start.is ∙ ap Some c.index-cells-start.is, slice_get_read others (length others) k _ refl (omega arith) c.index-others-k.is, c.f.ensures)
