-- The storage holds what the rows were, and what they are.
use Rattle.std.proofs.Common.{◌∙◌, sym}
use Rattle.grid_base.specs.declared.order.Order.TheVariants.{RowMajor, ColumnMajor}
use Rattle.grid_lines.proofs.RewriteLemmas.{calls_change, rewritten_by, stored_size, stored_rewritten}
use Rattle.grid_lines.proofs.rewrite.rewrite_stored.Goals as goal

pub rewrite_along-requires-clause-size : goal.rewrite_along-requires-clause-size
rewrite_along-requires-clause-size g c =
    stored_size (λ p x y q. Unit {0}) c.args.f c.args.grid.now RowMajor _ _ _ (sym c.order.ensures ∙ c.in-RowMajor.is) c.size-rows.ensures.rows c.size-rows.ensures.cols c.as_mut_slice.ensures.cells c.args.grid.now.fits.cells

pub rewrite_across-requires-clause-size : goal.rewrite_across-requires-clause-size
rewrite_across-requires-clause-size g c =
    stored_size (λ p x y q. Unit {0}) c.args.f c.args.grid.now ColumnMajor _ _ _ (sym c.order.ensures ∙ c.in-ColumnMajor.is) c.size-rows.ensures.rows c.size-rows.ensures.cols c.as_mut_slice-in-ColumnMajor.ensures.cells c.args.grid.now.fits.cells

pub returns-in-RowMajor-clause-rows : goal.returns-in-RowMajor-clause-rows
returns-in-RowMajor-clause-rows g c =
    stored_rewritten _ c.args.f c.args.grid.now RowMajor _ _ _ (sym c.order.ensures ∙ c.in-RowMajor.is) c.size-rows.ensures.rows c.size-rows.ensures.cols c.as_mut_slice.ensures.cells c.args.grid.now.fits.cells
    c.rewrite_along.new.cells c.rewrite_along.auto.cells c.rewrite_along.ensures

pub returns-in-RowMajor-clause-pure : goal.returns-in-RowMajor-clause-pure
returns-in-RowMajor-clause-pure g c = λ change says.
    rewritten_by _ _ change (calls_change g.F.FnMut c.args.f change says) _ _ (returns-in-RowMajor-clause-rows g c)

pub returns-in-ColumnMajor-clause-rows : goal.returns-in-ColumnMajor-clause-rows
returns-in-ColumnMajor-clause-rows g c =
    stored_rewritten _ c.args.f c.args.grid.now ColumnMajor _ _ _ (sym c.order.ensures ∙ c.in-ColumnMajor.is) c.size-rows.ensures.rows c.size-rows.ensures.cols c.as_mut_slice-in-ColumnMajor.ensures.cells c.args.grid.now.fits.cells
    c.rewrite_across.new.cells c.rewrite_across.auto.cells c.rewrite_across.ensures

pub returns-in-ColumnMajor-clause-pure : goal.returns-in-ColumnMajor-clause-pure
returns-in-ColumnMajor-clause-pure g c = λ change says.
    rewritten_by _ _ change (calls_change g.F.FnMut c.args.f change says) _ _ (returns-in-ColumnMajor-clause-rows g c)
