use Rattle.std.proofs.Common.{◌<◌, length, refl, ◌∙◌, arith, sym}
use Rattle.grid_base.proofs.Common.{slice_get_read}
use Rattle.grid_pairs.proofs.FoldLemmas.{more_next, more_all}
use Rattle.grid_pairs.proofs.fold.add_stored.Goals as goal

pub loop-k-preserved : goal.loop-k-preserved
loop-k-preserved g c =
    let k = c.loop-k.k in
    let folds = c.loop-k.folds in
    let cells = c.args.cells.now in
    let lt : k < length folds = omega (arith, c.loop-k.invariant.len) in
    let lc : k < length cells = omega (arith, c.requires.len) in
    more_next _ _ k cells _ folds c.index-folds-k.result c.f.result _ c.loop-k.invariant (slice_get_read folds (length folds) k _ refl lt c.index-folds-k.is) (slice_get_read cells (length cells) k _ refl lc c.index-cells-k.is) c.f.ensures

pub f-requires : goal.f-requires
f-requires g c =
    let k = c.loop-k.k in
    let folds = c.loop-k.folds in
    let cells = c.args.cells.now in
    let lt : k < length folds = omega (arith, c.loop-k.invariant.len) in
    let lc : k < length cells = omega (arith, c.requires.len) in
    c.requires.calls.at k _ _ (sym (c.loop-k.invariant.others k (omega arith)) ∙ slice_get_read folds (length folds) k _ refl lt c.index-folds-k.is) (slice_get_read cells (length cells) k _ refl lc c.index-cells-k.is)

pub returns : goal.returns
returns g c = more_all _ _ c.loop-k.k _ _ _ (omega (arith, c.loop-k.invariant.len)) c.loop-k.invariant
