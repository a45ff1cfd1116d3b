use Rattle.std.proofs.Common.{sym, subst, map, take, arith, take_all}
use Rattle.grid.proofs.Common.{AllZip, length_all_zip, same_from_all_zip, concat_rows}
use Rattle.grid.proofs.Lemmas.{concat_rows_more, AllZip-concat_rows, CanCut-rows, rows_shape, rows_equal}
use Rattle.grid.proofs.convert.join_clones.Goals as goal

pub loop-row-preserved : goal.loop-row-preserved
loop-row-preserved g c =
    let items = g.L.AsSlice.items in
    let rows = c.args.rows.now in
    let i = c.loop-row.row-index in
    let padding_count = c.in_ok-extend_with_clones.ensures.items in
    let zip = rw c.as_slice.ensures at padding_count.2 in
    rw (padding_count.1, concat_rows_more items rows i c.row-item.result c.loop-row-test.true c.row-item.is)
    (AllZip-concat_rows g.T.Clone.is_clone (concat_rows (map items (take i rows))) (items c.row-item.result) c.loop-row.cells.items padding_count.0 c.loop-row.invariant zip)

pub from_vec-requires : goal.from_vec-requires
from_vec-requires g c =
    let lists = map g.L.AsSlice.items c.args.rows.now in
    let measured = c.in_ok-count.ensures in
    let zip : AllZip g.T.Clone.is_clone (concat_rows lists) c.loop-row.cells.items =
    subst (λ rows. AllZip g.T.Clone.is_clone (concat_rows (map g.L.AsSlice.items rows)) c.loop-row.cells.items) (take_all c.loop-row.row-index c.args.rows.now (omega arith)) c.loop-row.invariant in
    let len = sym (length_all_zip g.T.Clone.is_clone (concat_rows lists) c.loop-row.cells.items zip) in
    CanCut-rows lists _ c.in_ok-count.cols measured.0 measured.2 len

pub returns : goal.returns
returns g c =
    let lists = map g.L.AsSlice.items c.args.rows.now in
    let measured = c.in_ok-count.ensures in
    let made = c.from_vec.ensures in
    let zip : AllZip g.T.Clone.is_clone (concat_rows lists) c.loop-row.cells.items =
    subst (λ rows. AllZip g.T.Clone.is_clone (concat_rows (map g.L.AsSlice.items rows)) c.loop-row.cells.items) (take_all c.loop-row.row-index c.args.rows.now (omega arith)) c.loop-row.invariant in
    let len = sym (length_all_zip g.T.Clone.is_clone (concat_rows lists) c.loop-row.cells.items zip) in (
      measured.0,
      rows_shape lists c.loop-row.cells.items c.in_ok-count.cols c.from_vec.result measured.0 measured.2 made.storage made.cols made.order len,
      record {
        each = subst (AllZip g.T.Clone.is_clone (concat_rows lists)) (sym made.storage) zip;
        same = λ equal.
            rows_equal lists c.loop-row.cells.items c.in_ok-count.cols c.from_vec.result measured.0 measured.2 made.storage made.cols
            (same_from_all_zip g.T.Clone.is_clone (concat_rows lists) c.loop-row.cells.items zip equal);
      },
    )
