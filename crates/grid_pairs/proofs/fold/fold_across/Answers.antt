use Rattle.std.proofs.Common.{◌<◌, ◌≡◌, ◌∙◌, ◌++◌, ap, arith, sym, length, take, drop}
use Rattle.grid_base.proofs.Common.{take-append_seam, row_count, col_count}
use Rattle.grid_base.proofs.TableLemmas.{rows-transposed}
use Rattle.grid_pairs.proofs.JoinLemmas.{transposed_cols}
use Rattle.grid_pairs.proofs.FoldLemmas.{folds_start, folds_col, folds_cols, folds_all, callable_col}
use Rattle.grid_pairs.proofs.fold.fold_across.Goals as goal

pub loop-c-init : goal.loop-c-init
loop-c-init g c = folds_start (λ h s p z. goal.F-post g h s p z) c.args.f.now c.args.init c.args.board.now.rows _ _ c.size-rows.ensures.rows c.in_ok-folds.ensures

pub add_row-requires : goal.add_row-requires
add_row-requires g c =
    let t = c.args.board.now in
    let across = c.transposed-across.ensures.rows in
    let lc : c.loop-c.c < col_count t.rows = omega (arith, c.loop-c-test.true, c.size-rows.ensures.cols) in
    record {
      row_in = omega (arith, ap row_count across, rows-transposed t.rows, lc);
      len = ap col_count across ∙ (transposed_cols t.rows t.table ∙ (sym c.loop-c.invariant.count ∙ sym (ap length c.as_mut_slice.ensures.value)));
      calls = rw (across, c.as_mut_slice.ensures.value) (callable_col (λ h s p z. goal.F-post g h s p z) c.args.f.now (λ h s p. goal.F-pre g h s p) c.args.init t.rows t.table c.requires.calls c.loop-c.c c.loop-c.folds.items lc c.loop-c.invariant);
    }

pub loop-c-preserved : goal.loop-c-preserved
loop-c-preserved g c =
    let t = c.args.board.now in
    let old = c.loop-c.folds.items in
    let new = c.add_row.new.folds in
    let lc : c.loop-c.c < col_count t.rows = omega (arith, c.loop-c-test.true, c.size-rows.ensures.cols) in
    let more = rw (c.transposed-across.ensures.rows, c.as_mut_slice.ensures.value) at c.add_row.ensures in
    let long : c.loop-c.folds.len ≡ length new = omega (arith, more.len, ap length c.as_mut_slice.ensures.value, c.as_mut_slice.ensures.len) in
    let all : take c.loop-c.folds.len (new ++ drop (length new) old) ≡ new = ap (λ k. take k (new ++ drop (length new) old)) long ∙ take-append_seam new (drop (length new) old) in
    rw all (folds_col (λ h s p z. goal.F-post g h s p z) c.args.f.now c.args.init t.rows c.loop-c.c old new t.table lc c.loop-c.invariant more)

pub returns : goal.returns
returns g c =
    let t = c.args.board.now in
    record { folds = folds_all (λ h s p z. goal.F-post g h s p z) c.args.f.now c.args.init t.rows _ (folds_cols (λ h s p z. goal.F-post g h s p z) c.args.f.now c.args.init t.rows c.loop-c.c _ t.table (omega (arith, c.loop-c-test.false, c.size-rows.ensures.cols)) c.loop-c.invariant) }
