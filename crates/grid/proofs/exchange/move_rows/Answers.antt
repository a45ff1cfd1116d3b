use Rattle.std.proofs.Common.{◌≡◌, ◌+◌, ◌-◌, arith, length, vec_len}
use Rattle.grid.proofs.Lemmas.{rows_left_all, last_row, row_left, rows_none, rows_more}
use Rattle.grid.proofs.exchange.move_rows.Goals as goal

pub loop-row-init : goal.loop-row-init
loop-row-init g c =
    record {
      moved = rows_none _ _ _ _ _ _ (omega (arith, c.size-rows.ensures.rows));
      left = rows_left_all _ _ _ c.requires.from_order c.size-rows.ensures.rows c.into_vec-cells.ensures;
    }

pub loop-row-preserved : goal.loop-row-preserved
loop-row-preserved g c =
    let h = c.loop-row.invariant in
    let from = c.args.from in
    let size : vec_len c.loop-row.cells ≡ length c.loop-row.cells.items = omega (arith, c.loop-row.cells.ok.0) in
    let next : c.loop-row.row ≡ (c.loop-row.row - 1) + 1 = omega (arith, c.loop-row-test.true) in
    let row = c.move_row-cells.ensures.taken from (last_row _ _ _ from _ h.left c.loop-row-test.true size c.size-rows.ensures.cols (omega (arith, c.loop-row.auto.row, c.size-rows.ensures.rows))) in
    record {
      moved = rows_more _ _ _ _ _ _ _ _ _ next (omega (arith, c.loop-row.auto.row, c.size-rows.ensures.rows)) h.moved (rw c.size-rows.ensures.cols at row);
      left = row_left _ _ _ from _ h.left c.loop-row-test.true size c.size-rows.ensures.cols _ c.move_row-cells.ensures.rest;
    }
