use Rattle.grid_base.specs.declared.words.Symmetry.TheVariants.{Transpose}
use Rattle.grid.proofs.Common.{rows-act, on_ok_weaker, on_err_weaker}
use Rattle.grid.proofs.Lemmas.{fits_across, col_inserted, twice_across}
use Rattle.grid.proofs.grid.Grid.insert_col.Goals as goal

pub insert_row-inserted-requires-clause-fits : goal.insert_row-inserted-requires-clause-fits
insert_row-inserted-requires-clause-fits g c =
    rw c.transpose.ensures.rows (fits_across _ _ c.args.self.now.table c.requires.fits)

pub insert_row-inserted-requires-clause-point : goal.insert_row-inserted-requires-clause-point
insert_row-inserted-requires-clause-point g c =
    rw (c.transpose.ensures.rows, rows-act Transpose c.args.self.now.rows) c.requires.point

pub returns-clause-rows : goal.returns-clause-rows
returns-clause-rows g c =
    on_ok_weaker c.insert_row-inserted.result (col_inserted c.args.at c.args.line.items _ _ _ _ c.args.self.now.table c.requires.fits c.requires.nonempty c.requires.point c.transpose.ensures.rows c.transpose-2.ensures.rows)
    c.insert_row-inserted.ensures.rows

pub returns-clause-fails : goal.returns-clause-fails
returns-clause-fails g c =
    let fails = c.insert_row-inserted.ensures.fails in
    record {
      too_large = rw (c.transpose.ensures.rows, rows-act Transpose c.args.self.now.rows) at fails.too_large;
      line_back = fails.line_back;
      unchanged =
          on_err_weaker c.insert_row-inserted.result
          (λ same. twice_across _ _ _ _ c.args.self.now.table c.transpose.ensures.rows c.transpose.ensures.order same c.transpose-2.ensures.rows c.transpose-2.ensures.order)
          fails.unchanged;
    }
