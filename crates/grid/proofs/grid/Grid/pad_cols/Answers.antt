use Rattle.std.proofs.Common.{ap, arith}
use Rattle.grid.proofs.Common.{row_count, on_ok_weaker, on_err_weaker, rows-act}
use Rattle.grid.proofs.Lemmas.{twice_across, pads_cols, size_across, none_added}
use Rattle.grid_base.specs.declared.words.Symmetry.TheVariants.{Transpose}
use Rattle.grid.proofs.grid.Grid.pad_cols.Goals as goal

pub pad_rows_counted-padded-requires : goal.pad_rows_counted-padded-requires
pad_rows_counted-padded-requires g c = omega (arith, ap row_count c.transpose.ensures.rows, rows-act Transpose c.args.self.now.rows)

pub returns-clause-padded : goal.returns-clause-padded
returns-clause-padded g c =
    let t = c.args.self.now.table in
    on_ok_weaker c.pad_rows_counted-padded.result
    (pads_cols c.args.self.now.rows t _ _ c.args.count _ _ _ c.pad_rows_counted-padded.new.self.table c.transpose.ensures.rows c.transpose-2.ensures.rows c.requires.point)
    c.pad_rows_counted-padded.ensures.padded

pub returns-clause-fails : goal.returns-clause-fails
returns-clause-fails g c =
    let t = c.args.self.now.table in
    let fails = c.pad_rows_counted-padded.ensures.fails in
    record {
      too_large = rw (size_across c.args.self.now.rows t c.args.count _ c.transpose.ensures.rows) at fails.too_large;
      none = λ e. fails.none (none_added c.args.self.now.rows t c.args.count _ c.transpose.ensures.rows e);
      unchanged =
          on_err_weaker c.pad_rows_counted-padded.result
          (λ same. twice_across _ _ _ _ t c.transpose.ensures.rows c.transpose.ensures.order same c.transpose-2.ensures.rows c.transpose-2.ensures.order)
          fails.unchanged;
    }
