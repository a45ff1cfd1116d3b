use Rattle.std.proofs.Common.{◌≡◌, ◌*◌, All, length, replicate, arith}
use Rattle.grid.proofs.Lemmas.{All-replicate, made_size, made_fill}
use Rattle.grid.proofs.grid.Grid.init_with_order.Goals as goal

pub returns-clause-made : goal.returns-clause-made
returns-clause-made g c =
    let count : length c.in_ok-cells.cells.items ≡ c.args.rows * c.args.cols = omega (arith, c.in_ok-cells.ensures.len, c.in_ok-count.ensures.count) in
    let made = c.from_vec_with_order.ensures in
    record { order = made.order; size = made_size c.args.order _ _ _ _ c.from_vec_with_order.result.table made.storage made.cols count }

pub returns-clause-cells : goal.returns-clause-cells
returns-clause-cells g c =
    let count : length c.in_ok-cells.cells.items ≡ c.args.rows * c.args.cols = omega (arith, c.in_ok-cells.ensures.len, c.in_ok-count.ensures.count) in
    let made = c.from_vec_with_order.ensures in
    let items : c.in_ok-cells.cells.items ≡ replicate c.in_ok-count.count c.args.value = c.in_ok-cells.ensures.items_if_clones_equal (c.requires.clones c.args.value) in
    let same : All (λ x. x ≡ c.args.value) c.in_ok-cells.cells.items = rw items (All-replicate c.in_ok-count.count c.args.value) in
    made_fill c.args.order _ _ _ _ c.from_vec_with_order.result.table made.storage made.cols count c.args.value same
