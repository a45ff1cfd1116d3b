use Rattle.std.proofs.Common.{◌≡◌, ◌++◌, length, take, drop, reverse, refl, arith}
use Rattle.grid_base.proofs.Common.{common_steps}
use Rattle.grid_base.proofs.Lemmas.{leaving_length, leaving_more, leaving_cells, leaving_tail}
use Rattle.grid_base.proofs.flat.ends.without_tail.Goals as goal

pub returns-clause-cells : goal.returns-clause-cells
returns-clause-cells g c = leaving_cells _ _ _ _ _ _ c.loop.invariant.run (omega (arith, leaving_length _ _ _ _ _ c.loop.invariant.run))

pub returns-clause-tail : goal.returns-clause-tail
returns-clause-tail g c =
    let start = c.len-start.result in
    let xs = c.loop.into.items in
    let turned = take start xs ++ reverse (drop start xs) in
    let len : length turned ≡ length xs = grind (arith, common_steps) in
    let h = leaving_tail _ c.args.to.1 start c.loop.into.len _ _ _ _ turned c.loop.invariant.run (omega (arith, leaving_length _ _ _ _ _ c.loop.invariant.run)) (omega arith) refl (omega (arith, len)) in
    grind (arith, common_steps, h)

pub loop-preserved : goal.loop-preserved
loop-preserved g c =
    let inv = c.loop.invariant in
    let from = c.take_last.ensures in
    let to = c.push_reserved.ensures in
    record {
      run = leaving_more _ _ _ _ _ _ _ _ _ inv.run (omega (arith, c.loop.auto.counter)) from.items to.items;
      room = omega (arith, inv.room, to.len, to.capacity, c.loop-test.true);
    }
