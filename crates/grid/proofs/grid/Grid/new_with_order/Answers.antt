use Rattle.std.proofs.Common.{◌≡◌, ◌*◌, All, length, ap, arith}
use Rattle.grid.proofs.Common.{All-append, common_steps, row_count}
use Rattle.grid.proofs.Lemmas.{All-none, length-storage_none, made_size, made_fill}
use Rattle.grid.proofs.grid.Grid.new_with_order.Goals as goal

pub returns-then-rows-eq0-clause-defaults : goal.returns-then-rows-eq0-clause-defaults
returns-then-rows-eq0-clause-defaults g c = record {
  each = All-none g.T.Default.is_default _ (length-storage_none _ _ c.empty_with_order.ensures.rows);
  one_default = λ d only r k within. absurd (omega (arith, within.0, ap row_count c.empty_with_order.ensures.rows));
}

pub loop-preserved : goal.loop-preserved
loop-preserved g c = record {
  len = grind (arith, common_steps);
  room = omega arith;
  defaults = grind (arith, common_steps, All-append);
}

pub returns-clause-made : goal.returns-clause-made
returns-clause-made g c =
    let count : length c.loop.cells.items ≡ c.args.rows * c.args.cols = omega (arith, c.loop.invariant.len, c.in_ok-count.ensures.count) in
    let made = c.from_vec_with_order.ensures in
    record { order = made.order; size = made_size c.args.order _ _ _ _ c.from_vec_with_order.result.table made.storage made.cols count }

pub returns-clause-defaults : goal.returns-clause-defaults
returns-clause-defaults g c =
    let count : length c.loop.cells.items ≡ c.args.rows * c.args.cols = omega (arith, c.loop.invariant.len, c.in_ok-count.ensures.count) in
    let made = c.from_vec_with_order.ensures in
    record {
      each = rw (made.order, made.storage) c.loop.invariant.defaults;
      one_default = λ d only.
          let same : All (λ x. x ≡ d) c.loop.cells.items = λ k e lt. only _ (c.loop.invariant.defaults k e lt) in
          made_fill c.args.order _ _ _ _ c.from_vec_with_order.result.table made.storage made.cols count d same;
    }
