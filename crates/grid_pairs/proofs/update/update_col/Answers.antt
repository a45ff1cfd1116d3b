use Rattle.std.proofs.Common.{◌≡◌, ◌<◌, ◌+◌, ◌*◌, Some, length, refl, arith, ap, ◌∙◌}
use Rattle.grid_base.proofs.Common.{slice_get_read, row_count, col_count}
use Rattle.grid_base.proofs.WeaveLemmas.{place_below}
use Rattle.grid_pairs.proofs.AnswerLemmas.{col_more}
use Rattle.grid_pairs.proofs.update.update_col.Goals as goal

pub loop-r-preserved : goal.loop-r-preserved
loop-r-preserved g c =
    let r = c.loop-r.r in
    let u = c.args.other.now.rows in
    let at = r * c.cols-cols.result + c.args.c in
    let is : at ≡ r * col_count u + c.args.c = ap (λ n. r * n + c.args.c) c.cols-cols.ensures in
    let cells = c.loop-r.cells in
    let i = c.loop-r.invariant in
    let below : r < row_count u = omega (arith, c.rows-r-end.ensures) in
    let lt : at < length cells = omega (arith, is, i.len, c.requires.len, place_below r (col_count u) c.args.c (row_count u) below c.requires.col_in) in
    col_more _ _ r c.args.c u _ cells c.f.result at is i c.requires.col_in lt
    (_, _, slice_get_read cells (length cells) at _ refl lt c.index-cells-place.is ∙ ap Some c.index-cells-place.is, c.get_unchecked.ensures, c.f.ensures)
