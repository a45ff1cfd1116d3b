use Rattle.std.proofs.Common.{arith}
use Rattle.grid_base.proofs.Common.{row}
use Rattle.grid_pairs.proofs.FoldLemmas.{fold_more, fold_all}
use Rattle.grid_pairs.proofs.fold.fold_seen.Goals as goal

pub f-folded-requires : goal.f-folded-requires
f-folded-requires g c = c.requires.calls.at c.loop-col.col _ _ c.get_unchecked.ensures c.loop-col.invariant

pub loop-col-preserved : goal.loop-col-preserved
loop-col-preserved g c = fold_more (λ h s p z. goal.F-post g h s p z) c.args.f.now c.args.init c.loop-col.folded c.f-folded.result (row c.args.board.now.rows c.args.r) c.loop-col.col _ c.loop-col.invariant c.get_unchecked.ensures c.f-folded.ensures

pub returns : goal.returns
returns g c =
    let t = c.args.board.now in
    fold_all (λ h s p z. goal.F-post g h s p z) c.args.f.now c.args.init c.loop-col.folded (row t.rows c.args.r) c.loop-col.col (omega (arith, t.table.even c.args.r c.requires.row_in, c.cols-col-end.ensures)) c.loop-col.invariant
