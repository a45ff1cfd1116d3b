-- One row more, and in the end all.
use Rattle.std.proofs.Common.{◌≡◌, ◌∙◌, ◌∷◌, ◌+◌, ◌-◌, ◌*◌, ◌<◌, [], length, refl, sym, subst, arith}
use Rattle.grid_base.specs.declared.order.Order.TheVariants.{RowMajor}
use Rattle.grid_base.specs.GridValue.{HoldsSize}
use Rattle.grid_base.proofs.ViewLemmas.{view-rows}
use Rattle.grid_lines.proofs.RewriteLemmas.{rewriting_more, rewriting_all, row_along, along_wide, along_long, along_rewritten}
use Rattle.grid_lines.proofs.rewrite.rewrite_along.Goals as goal

pub loop-row-preserved : goal.loop-row-preserved
loop-row-preserved g c =
    let i = c.loop-row.invariant in
    let m = c.args.rows in
    let n = c.args.cols in
    let r = c.loop-row.row in
    let lr : r < m = c.loop-row-test.true in
    let all : r * n + n - r * n ≡ n = omega arith in
    let wide : length c.f.new.arg2 ≡ n = c.f.auto.arg2 ∙ along_wide m n r _ c.loop-row.cells i.size lr all in
    let count = view-rows RowMajor m n c.args.cells.now c.requires.size in
    record {
      callable = record { at = λ xs. (i.callable.at (_ ∷ xs)).1 _ _ c.f.ensures };
      size = subst (HoldsSize m n) (sym (along_long m n r _ c.loop-row.cells i.size lr all c.f.new.arg2 wide)) i.size;
      rewriting = rw (along_rewritten m n r _ c.loop-row.cells i.size lr all c.f.new.arg2 wide)
          (rewriting_more _ _ _ r _ _ _ _ _ [] i.rewriting (omega (arith, count)) (row_along m n r _ c.loop-row.cells i.size lr all)
          (record { shown = _; shows = refl; left = _; called = c.f.ensures; leaves = refl }));
    }

pub returns : goal.returns
returns g c = rewriting_all _ _ _ c.loop-row.row _ _ c.loop-row.invariant.rewriting (omega (arith, view-rows RowMajor c.args.rows c.args.cols c.args.cells.now c.requires.size))
