use Rattle.std.proofs.Common.{◌<◌, length, refl, ◌∙◌, arith, sym}
use Rattle.grid_base.proofs.Common.{slice_get_read, row}
use Rattle.grid_pairs.proofs.FoldLemmas.{more_next, more_all}
use Rattle.grid_pairs.proofs.fold.add_seen.Goals as goal

pub loop-col-preserved : goal.loop-col-preserved
loop-col-preserved g c =
    let k = c.loop-col.col in
    let folds = c.loop-col.folds in
    let lt : k < length folds = omega (arith, c.loop-col.invariant.len, c.requires.len, c.cols-col-end.ensures) in
    more_next _ _ k (row c.args.board.now.rows c.args.r) _ folds c.index-folds-col.result c.f.result _ c.loop-col.invariant (slice_get_read folds (length folds) k _ refl lt c.index-folds-col.is) c.get_unchecked.ensures c.f.ensures

pub f-requires : goal.f-requires
f-requires g c =
    let k = c.loop-col.col in
    let folds = c.loop-col.folds in
    let lt : k < length folds = omega (arith, c.loop-col.invariant.len, c.requires.len, c.cols-col-end.ensures) in
    c.requires.calls.at k _ _ (sym (c.loop-col.invariant.others k (omega arith)) ∙ slice_get_read folds (length folds) k _ refl lt c.index-folds-col.is) c.get_unchecked.ensures

pub returns : goal.returns
returns g c = more_all _ _ c.loop-col.col _ _ _ (omega (arith, c.requires.len, c.cols-col-end.ensures)) c.loop-col.invariant
