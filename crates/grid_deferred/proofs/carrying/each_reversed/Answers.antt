use Rattle.std.proofs.Common.{◌<◌, length, arith}
use Rattle.grid_deferred.proofs.Lemmas.{each_more}
use Rattle.grid_deferred.proofs.carrying.each_reversed.Goals as goal

pub loop-line-preserved : goal.loop-line-preserved
loop-line-preserved g c =
    let within : c.loop-line.line-index < length c.loop-line.line-items = omega (arith, c.loop-line-test.true, c.loop-line.auto.line-items) in
    record {
      cells = each_more _ _ _ c.line-item.result _ within c.loop-line.invariant.cells c.reverse.ensures.items;
    }
