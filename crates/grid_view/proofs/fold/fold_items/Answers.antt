use Rattle.std.proofs.Common.{rules, refl}
use Rattle.std.proofs.iter.Next as it
use Rattle.std.proofs.slice.Lists.{chained_more}
use Rattle.std.specs.Iterator.{FoldTurn}
use Rattle.grid_view.proofs.fold.fold_items.Goals as goal

pub loop-item-init : goal.loop-item-init
loop-item-init g c = (it.begun (search rules) (search rules) refl, search rules)

pub next-requires : goal.next-requires
next-requires g c = search (rules, c.loop-item.invariant.0.callable)

pub f-folded-requires : goal.f-folded-requires
f-folded-requires g c = search (rules, it.served c.loop-item.invariant.1 c.in-Some.item _ (it.said g.I.Iterator.next_gives c.in-Some.is c.next.ensures.steps))

pub loop-item-smaller : goal.loop-item-smaller
loop-item-smaller g c = it.less c.loop-item.invariant.0 c.in-Some.item c.in-Some.is c.next.ensures.goes

pub loop-item-preserved : goal.loop-item-preserved
loop-item-preserved g c =
    let called = it.called g.F.FnMut c.f-folded.ensures refl in
    let said = it.said g.I.Iterator.next_gives c.in-Some.is c.next.ensures.steps in
    let seen = chained_more (FoldTurn g.F.FnMut) _ c.loop-item.invariant.0.seen _ c.in-Some.item _ c.loop-item.invariant.0.holds called in
    (it.again c.loop-item.invariant.0 c.in-Some.item c.in-Some.is (c.next.ensures.steps, c.next.ensures.goes) seen, it.Serves-on c.loop-item.invariant.1 c.in-Some.item _ said _ called)

pub returns : goal.returns
returns g c = (c.loop-item.invariant.0.seen, it.drained c.loop-item.invariant.0 c.in_default.is c.next.ensures.steps, c.loop-item.invariant.0.holds)
