-- One more cell, and in the end all.
use Rattle.std.proofs.Common.{◌≡◌, ◌∙◌, [], length, refl, sym, arith}
use Rattle.grid_base.proofs.Common.{row, set-get_or}
use Rattle.grid_lines.proofs.SetLemmas.{row_written, all_written}
use Rattle.grid_lines.proofs.set.set_row.Goals as goal

pub loop-col-init : goal.loop-col-init
loop-col-init g c = record {
  rows = sym (set-get_or c.args.grid.now.rows c.args.r []);
  row_count = refl;
  col_count = refl;
  order = refl;
}

pub loop-col-preserved : goal.loop-col-preserved
loop-col-preserved g c =
    let i = c.loop-col.invariant in
    let t = c.args.grid.now in
    let fits : length c.args.cells.now ≡ length (row t.rows c.args.r) = c.requires.fits ∙ sym (t.table.even c.args.r c.requires.row_in) in
    record {
      rows = row_written t.rows _ _ c.args.r c.loop-col.col c.args.cells.now _ c.requires.row_in (omega arith) fits i.rows c.index-cells-col.is c.set.result (omega (arith, i.row_count, c.requires.row_in), omega (arith, i.col_count, c.requires.fits)) c.set.ensures.in_range c.set.ensures.rows;
      row_count = c.set.ensures.same.rows ∙ i.row_count;
      col_count = c.set.ensures.same.cols ∙ i.col_count;
      order = c.set.ensures.same.order ∙ i.order;
    }

pub returns-clause-rows : goal.returns-clause-rows
returns-clause-rows g c =
    let t = c.args.grid.now in
    let fits : length c.args.cells.now ≡ length (row t.rows c.args.r) = c.requires.fits ∙ sym (t.table.even c.args.r c.requires.row_in) in
    c.loop-col.invariant.rows ∙ all_written t.rows c.args.r c.loop-col.col c.args.cells.now (row t.rows c.args.r) (omega arith) fits
