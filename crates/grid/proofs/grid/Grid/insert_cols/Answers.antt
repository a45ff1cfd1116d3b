use Rattle.std.proofs.Common.{arith}
use Rattle.grid_base.specs.declared.words.Symmetry.TheVariants.{Transpose}
use Rattle.grid.proofs.Common.{rows-act, rows-vecs, on_ok_weaker, on_err_weaker}
use Rattle.grid.proofs.Lemmas.{fits_across, cols_inserted, twice_across}
use Rattle.grid.proofs.grid.Grid.insert_cols.Goals as goal

pub insert_rows-inserted-requires-clause-fits : goal.insert_rows-inserted-requires-clause-fits
insert_rows-inserted-requires-clause-fits g c some =
    rw c.transpose.ensures.rows (fits_across _ _ c.args.self.now.table (c.requires.fits some))

pub insert_rows-inserted-requires-clause-point : goal.insert_rows-inserted-requires-clause-point
insert_rows-inserted-requires-clause-point g c =
    rw (c.transpose.ensures.rows, rows-act Transpose c.args.self.now.rows) c.requires.point

pub returns-clause-rows : goal.returns-clause-rows
returns-clause-rows g c =
    on_ok_weaker c.insert_rows-inserted.result (cols_inserted c.args.at _ _ _ _ _ c.args.self.now.table c.requires.table (λ some. c.requires.fits (omega (arith, rows-vecs c.args.lines.items))) c.requires.point c.transpose.ensures.rows c.transpose-2.ensures.rows)
    c.insert_rows-inserted.ensures.rows

pub returns-clause-fails : goal.returns-clause-fails
returns-clause-fails g c =
    let fails = c.insert_rows-inserted.ensures.fails in
    record {
      too_large = rw (c.transpose.ensures.rows, rows-act Transpose c.args.self.now.rows) at fails.too_large;
      none = fails.none;
      lines_back = fails.lines_back;
      unchanged =
          on_err_weaker c.insert_rows-inserted.result
          (λ same. twice_across _ _ _ _ c.args.self.now.table c.transpose.ensures.rows c.transpose.ensures.order same c.transpose-2.ensures.rows c.transpose-2.ensures.order)
          fails.unchanged;
    }
