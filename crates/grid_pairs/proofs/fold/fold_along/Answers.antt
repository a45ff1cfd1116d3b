use Rattle.std.proofs.Common.{arith, ap, ◌≡◌}
use Rattle.grid_base.proofs.Common.{row, row_count}
use Rattle.grid_pairs.proofs.FoldLemmas.{folds_more, folds_all}
use Rattle.grid_pairs.proofs.fold.fold_along.Goals as goal

pub loop-r-preserved : goal.loop-r-preserved
loop-r-preserved g c =
    let i = c.loop-r.invariant in
    let p = c.push_reserved.ensures in
    record {
      room = omega (arith, i.room, p.capacity);
      folds = rw p.items (folds_more _ _ c.args.init c.fold_row-folded.result c.loop-r.r (row c.args.board.now.rows) _ i.folds (rw c.view-seen.ensures at c.fold_row-folded.ensures));
    }

pub returns : goal.returns
returns g c =
    let t = c.args.board.now.rows in
    let all : c.loop-r.r ≡ row_count t = omega (arith, c.loop-r-test.false, c.rows-rows.ensures, c.loop-r.auto.r-end, ap (λ v. row_count v.rows) c.view-seen.ensures) in
    record { folds = folds_all _ _ c.args.init t _ (rw all at c.loop-r.invariant.folds) }
