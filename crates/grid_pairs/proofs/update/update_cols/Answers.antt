use Rattle.std.proofs.Common.{◌≡◌, arith, subst}
use Rattle.grid_base.proofs.Common.{col_count}
use Rattle.grid_pairs.specs.Answered.{ColsReplaced}
use Rattle.grid_pairs.proofs.AnswerLemmas.{cols_more, cols_all}
use Rattle.grid_pairs.proofs.update.update_cols.Goals as goal

pub loop-c-preserved : goal.loop-c-preserved
loop-c-preserved g c =
    cols_more _ _ c.loop-c.c _ _ _ _ c.loop-c.invariant c.update_col.ensures (omega (arith, c.cols-c-end.ensures))

pub returns : goal.returns
returns g c =
    let u = c.args.other.now.rows in
    let all : c.loop-c.c ≡ col_count u = omega (arith, c.cols-c-end.ensures) in
    cols_all _ _ u c.args.cells.now c.loop-c.cells c.requires.len
    (subst (λ n. ColsReplaced (λ h p q z. goal.F-post g h p q z) c.args.f.now n u c.args.cells.now c.loop-c.cells) all c.loop-c.invariant)
