use Rattle.std.proofs.Common.{length, refl, arith}
use Rattle.grid_base.proofs.Common.{slice_get_read}
use Rattle.grid_pairs.proofs.FoldLemmas.{fold_more, fold_all}
use Rattle.grid_pairs.proofs.fold.fold_stored.Goals as goal

pub f-folded-requires : goal.f-folded-requires
f-folded-requires g c =
    let k = c.loop-k.k in
    let cells = c.args.cells.now in
    c.requires.calls.at k _ _ (slice_get_read cells (length cells) k _ refl (omega arith) c.index-cells-k.is) c.loop-k.invariant

pub loop-k-preserved : goal.loop-k-preserved
loop-k-preserved g c =
    let k = c.loop-k.k in
    let cells = c.args.cells.now in
    fold_more (λ h s p z. goal.F-post g h s p z) c.args.f.now c.args.init c.loop-k.folded c.f-folded.result cells k _ c.loop-k.invariant (slice_get_read cells (length cells) k _ refl (omega arith) c.index-cells-k.is) c.f-folded.ensures

pub returns : goal.returns
returns g c = fold_all (λ h s p z. goal.F-post g h s p z) c.args.f.now c.args.init c.loop-k.folded c.args.cells.now c.loop-k.k (omega arith) c.loop-k.invariant
