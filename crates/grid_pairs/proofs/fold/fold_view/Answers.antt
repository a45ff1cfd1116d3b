use Rattle.std.proofs.Common.{arith}
use Rattle.grid_pairs.proofs.FoldLemmas.{rows_more, rows_all}
use Rattle.grid_pairs.proofs.fold.fold_view.Goals as goal

pub fold_row-folded-requires-clause-calls : goal.fold_row-folded-requires-clause-calls
fold_row-folded-requires-clause-calls g c = record {
  at = λ col s p e w. c.requires.calls c.loop-r.r col c.loop-r.folded s p e c.loop-r.invariant w;
}

pub loop-r-preserved : goal.loop-r-preserved
loop-r-preserved g c =
    let t = c.args.board.now.rows in
    rows_more (λ h s p z. goal.F-post g h s p z) c.args.f.now c.args.init c.loop-r.folded c.fold_row-folded.result t c.loop-r.r (omega (arith, c.rows-r-end.ensures)) c.loop-r.invariant c.fold_row-folded.ensures

pub returns : goal.returns
returns g c =
    let t = c.args.board.now.rows in
    record { fold = rows_all (λ h s p z. goal.F-post g h s p z) c.args.f.now c.args.init c.loop-r.folded t c.loop-r.r (omega (arith, c.rows-r-end.ensures)) c.loop-r.invariant }
