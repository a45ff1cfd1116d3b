-- One row more, and in the end all.
use Rattle.std.proofs.Common.{◌≡◌, ◌∙◌, ◌∷◌, ◌<◌, [], length, refl, sym, ap, subst, arith}
use Rattle.grid_base.proofs.Common.{mid_of, put_mid, HoldsSize, table_of}
use Rattle.grid_base.specs.declared.order.Order.TheVariants.{ColumnMajor}
use Rattle.grid_base.proofs.ViewLemmas.{view-rows}
use Rattle.grid_lines.specs.Brought.{brought, taken_back}
use Rattle.grid_lines.proofs.BroughtLemmas.{row_across, across_wide, across_long, across_rewritten}
use Rattle.grid_lines.proofs.RewriteLemmas.{rewriting_more, rewriting_all}
use Rattle.grid_lines.proofs.rewrite.rewrite_across.Goals as goal

pub loop-row-preserved : goal.loop-row-preserved
loop-row-preserved g c =
    let i = c.loop-row.invariant in
    let m = c.args.rows in
    let n = c.args.cols in
    let r = c.loop-row.row in
    let cells = c.loop-row.cells in
    let y = c.f.new.arg2 in
    let lr : r < m = c.loop-row-test.true in
    let wide : length y ≡ n = c.f.auto.arg2 ∙ (ap (λ l. length (mid_of 0 n l)) c.bring.ensures ∙ across_wide m n r cells i.size lr) in
    let back : c.take_back.new.cells ≡ taken_back m r n (put_mid 0 n (brought m r n cells) y) = c.take_back.ensures ∙ ap (λ l. taken_back m r n (put_mid 0 n l y)) c.bring.ensures in
    let count = view-rows ColumnMajor m n c.args.cells.now c.requires.size in
    record {
      callable = record { at = λ xs. (i.callable.at (_ ∷ xs)).1 _ _ c.f.ensures };
      size = subst (HoldsSize m n) (sym (ap length back ∙ across_long m n r cells i.size lr y wide)) i.size;
      rewriting = rw (ap (table_of ColumnMajor m n) back ∙ across_rewritten m n r cells i.size lr y wide)
          (rewriting_more _ _ _ r _ _ _ _ _ [] i.rewriting (omega (arith, count)) (ap (mid_of 0 n) c.bring.ensures ∙ row_across m n r cells i.size lr)
          (record { shown = _; shows = refl; left = _; called = c.f.ensures; leaves = refl }));
    }

pub returns : goal.returns
returns g c = rewriting_all _ _ _ c.loop-row.row _ _ c.loop-row.invariant.rewriting (omega (arith, view-rows ColumnMajor c.args.rows c.args.cols c.args.cells.now c.requires.size))
