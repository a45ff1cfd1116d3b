-- The rows of the transposed table.
use Rattle.std.proofs.Common.{sym, rules}
use Rattle.std.proofs.lemmas.Result.{on_err_weaker}
use Rattle.grid.proofs.ColEditLemmas.{across-back}
use Rattle.grid.proofs.TransposedEditLemmas.{twice_across}
use Rattle.grid_lines.proofs.AcrossLemmas.{across}
use Rattle.grid_lines.proofs.sort.sort_cols_by_key.Goals as goal

pub returns : goal.returns
returns g c =
    let e = c.sort_rows_by_key-sorted.ensures in
    let over = sym (across _ _ c.transpose.ensures.rows) in
    let back = across-back _ _ c.sort_rows_by_key-sorted.new.grid.table c.transpose-2.ensures.rows in
    record {
      permutation = rw (over, back) e.permutation;
      sorted = rw back e.sorted;
      by_key = λ given says. rw back (e.by_key given says);
      stable = rw (over, back) e.stable;
      err = on_err_weaker c.sort_rows_by_key-sorted.result
          (λ same. twice_across _ _ _ _ c.args.grid.now.table c.transpose.ensures.rows c.transpose.ensures.order same c.transpose-2.ensures.rows c.transpose-2.ensures.order)
          e.err;
      along = e.along;
      row_count = search rules;
      col_count = search rules;
      order = search rules;
    }
