use Rattle.std.proofs.Common.{◌≡◌, ◌∙◌, sym, ap, arith}
use Rattle.grid.proofs.Common.{act, row_count, col_count, insert_cols, act_is_transposed}
use Rattle.grid.proofs.Lemmas.{across-none, fits_across, cols_inserted, twice_across, put_last}
use Rattle.grid_base.specs.declared.words.Symmetry.TheVariants.{Transpose}
use Rattle.grid.proofs.grid.Grid.append_cols.Goals as goal

pub append_rows-appended-requires : goal.append_rows-appended-requires
append_rows-appended-requires g c =
    record {
      fits = λ some.
          rw (c.transpose.ensures.rows, c.transpose-2.ensures.col_count) (fits_across _ _ c.args.self.now.table (c.requires.fits (omega (arith, some, c.transpose-2.ensures.row_count))));
    }

pub returns-in-Ok-clause-rows : goal.returns-in-Ok-clause-rows
returns-in-Ok-clause-rows g c =
    let t = c.args.self.now in
    let lines = c.transpose-2.new.self in
    let end : col_count t.rows ≡ row_count c.transpose.new.self.rows = sym c.transpose.ensures.row_count in
    cols_inserted (col_count t.rows) lines.rows t.rows c.transpose.new.self.rows _ _ t.table lines.table
    (λ some. rw c.transpose-2.ensures.col_count (c.requires.fits (omega (arith, some, c.transpose-2.ensures.row_count)))) (omega arith) c.transpose.ensures.rows c.transpose-3.ensures.rows
    (c.in-Ok.ensures.rows ∙ sym (put_last (col_count t.rows) lines.rows c.transpose.new.self.rows end))
    ∙ ap (λ l. insert_cols (col_count t.rows) l t.rows) (c.transpose-2.ensures.rows ∙ act_is_transposed c.args.other.rows)

pub returns-in-Ok-clause-fails : goal.returns-in-Ok-clause-fails
returns-in-Ok-clause-fails g c =
    let fails = c.in-Ok.ensures.fails in
    record {
      too_large = rw (c.transpose.ensures.row_count, c.transpose-2.ensures.row_count, c.transpose-2.ensures.col_count) at fails.too_large;
      none = λ e. fails.none (c.transpose-2.ensures.rows ∙ (ap (act Transpose) e ∙ across-none));
      grid_back = fails.grid_back;
      unchanged = fails.unchanged;
    }

pub returns-in-Err-clause-fails : goal.returns-in-Err-clause-fails
returns-in-Err-clause-fails g c =
    let fails = c.in-Err.ensures.fails in
    record {
      too_large = rw (c.transpose.ensures.row_count, c.transpose-2.ensures.row_count, c.transpose-2.ensures.col_count) at fails.too_large;
      none = λ e. fails.none (c.transpose-2.ensures.rows ∙ (ap (act Transpose) e ∙ across-none));
      grid_back = twice_across _ _ _ _ c.args.other.table c.transpose-2.ensures.rows c.transpose-2.ensures.order fails.grid_back c.transpose-in-Err.ensures.rows c.transpose-in-Err.ensures.order;
      unchanged = twice_across _ _ _ _ c.args.self.now.table c.transpose.ensures.rows c.transpose.ensures.order fails.unchanged c.transpose-3.ensures.rows c.transpose-3.ensures.order;
    }
