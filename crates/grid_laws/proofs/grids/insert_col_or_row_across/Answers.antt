use Rattle.std.proofs.Common.{◌∙◌, ap, refl, sym, subst}
use Rattle.grid_laws.proofs.Common.{flipped, act, IsTable, on_ok_weaker, on_err_weaker, rows-act, same_grid_value, flipped-flipped, insert_col, fits_across, col_inserted, twice_across}
use Rattle.grid_base.specs.declared.words.Symmetry.TheVariants.{Transpose}
use Rattle.grid_laws.proofs.grids.insert_col_or_row_across.Goals as goal

pub insert_row-as_row-requires-clause-nonempty : goal.insert_row-as_row-requires-clause-nonempty
insert_row-as_row-requires-clause-nonempty g c = rw c.requires.same_line c.requires.nonempty

pub insert_row-as_row-requires-clause-fits : goal.insert_row-as_row-requires-clause-fits
insert_row-as_row-requires-clause-fits g c =
    rw (c.requires.same_line, c.transpose.ensures.rows, c.requires.same) (fits_across _ _ c.args.grid.now.table c.requires.fits)

pub insert_row-as_row-requires-clause-point : goal.insert_row-as_row-requires-clause-point
insert_row-as_row-requires-clause-point g c =
    rw (c.transpose.ensures.rows, c.requires.same, rows-act Transpose c.args.grid.now.rows) c.requires.point

pub returns-clause-same : goal.returns-clause-same
returns-clause-same g c =
    let old = c.args.grid.now in
    let line = c.args.line.items in
    let there = c.transpose.ensures.rows ∙ ap (λ s. act Transpose s.rows) c.requires.same in
    on_ok_weaker c.insert_col-as_col.result
    (λ as_col. on_ok_weaker c.insert_row-as_row.result
    (λ as_row. same_grid_value _ _
    (col_inserted c.args.at line old.rows _ _ _ c.args.grid.now.table c.requires.fits c.requires.nonempty c.requires.point there c.transpose-2.ensures.rows (rw c.requires.same_line at as_row) ∙ sym as_col)
    (c.transpose-2.ensures.order ∙ (ap flipped (c.insert_row-as_row.ensures.order ∙ c.transpose.ensures.order) ∙ flipped-flipped c.args.other.now.order) ∙ (ap (λ s. s.order) c.requires.same ∙ sym c.insert_col-as_col.ensures.order)))
    c.insert_row-as_row.ensures.rows)
    c.insert_col-as_col.ensures.rows

pub returns-clause-as_row : goal.returns-clause-as_row
returns-clause-as_row g c =
    let old = c.args.grid.now in
    let line = c.args.line.items in
    let there = c.transpose.ensures.rows ∙ ap (λ s. act Transpose s.rows) c.requires.same in
    on_ok_weaker c.insert_row-as_row.result
    (λ as_row. col_inserted c.args.at line old.rows _ _ _ c.args.grid.now.table c.requires.fits c.requires.nonempty c.requires.point there c.transpose-2.ensures.rows (rw c.requires.same_line at as_row)
    ∙ ap (λ s. insert_col c.args.at line s.rows) (sym c.requires.same))
    c.insert_row-as_row.ensures.rows

pub returns-clause-other_order : goal.returns-clause-other_order
returns-clause-other_order g c =
    c.transpose-2.ensures.order ∙ (ap flipped (c.insert_row-as_row.ensures.order ∙ c.transpose.ensures.order) ∙ flipped-flipped c.args.other.now.order)

pub returns-clause-refused_row : goal.returns-clause-refused_row
returns-clause-refused_row g c =
    on_err_weaker c.insert_row-as_row.result
    (λ same. twice_across _ _ _ _ (subst (λ s. IsTable s.rows) (sym c.requires.same) c.args.grid.now.table) c.transpose.ensures.rows c.transpose.ensures.order same c.transpose-2.ensures.rows c.transpose-2.ensures.order)
    c.insert_row-as_row.ensures.fails.unchanged

pub returns-clause-law : goal.returns-clause-law
returns-clause-law g c =
    sym (col_inserted c.args.at c.args.line.items c.args.grid.now.rows _ _ _ c.args.grid.now.table c.requires.fits c.requires.nonempty c.requires.point refl refl refl)
