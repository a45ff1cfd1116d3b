use Rattle.std.proofs.Common.{◌*◌, [], length, ap, arith}
use Rattle.std.proofs.lemmas.List.Folds.{length-flat_map-take}
use Rattle.grid_base.specs.declared.order.Order.TheVariants.{RowMajor}
use Rattle.grid_base.proofs.StorageLemmas.{length-storage}
use Rattle.grid_view.proofs.copy.clones_in_turn.Goals as goal

pub loop-r-init : goal.loop-r-init
loop-r-init g c =
    let view = c.args.view.now in
    let rows = ap (λ x. x * c.size-rows.result.1) c.size-rows.ensures.rows in
    let cols = ap (λ x. length view.rows * x) c.size-rows.ensures.cols in
    record {
      cells = c.in_ok-copies.ensures.items;
      room = omega (arith, length-storage RowMajor view.rows view.table, rows, cols, c.in_ok-copies.ensures.exact);
    }

pub push_row-requires-clause-room : goal.push_row-requires-clause-room
push_row-requires-clause-room g c =
    let h = c.loop-r.invariant in
    omega (arith, ap length h.cells, length-flat_map-take (λ line. line) c.args.view.now.rows c.loop-r.r [] (omega (arith, c.size-rows.ensures.rows)), h.room)

pub with_clones-requires-clause-room : goal.with_clones-requires-clause-room
with_clones-requires-clause-room g c =
    let view = c.args.view.now in
    let rows = ap (λ x. x * c.size-rows.result.1) c.size-rows.ensures.rows in
    let cols = ap (λ x. length view.rows * x) c.size-rows.ensures.cols in
    let held = ap length c.iter.ensures.gives.0 in
    let none = ap length c.in_ok-copies.ensures.items in
    omega (arith, held, none, length-storage RowMajor view.rows view.table, rows, cols, c.in_ok-copies.ensures.exact)
