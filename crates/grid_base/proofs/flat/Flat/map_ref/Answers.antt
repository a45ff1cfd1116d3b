use Rattle.std.proofs.Common.{◌<◌, refl, sym, subst, ◌∙◌, length, arith}
use Rattle.grid_base.proofs.Common.{take_more, CallableAtRefs}
use Rattle.grid_base.proofs.Lemmas.{AllZip-append}
use Rattle.grid_base.proofs.flat.Flat.map_ref.Goals as goal

pub loop-cell-preserved : goal.loop-cell-preserved
loop-cell-preserved g c =
    let i = c.loop-cell.invariant in
    let p = c.push_reserved.ensures in
    let m = c.f.ensures in
    let items = c.as_slice-cell-items.result.now in
    let lt : c.loop-cell.cell-index < length c.as_slice-cell-items.result.now = omega arith in
    record {
      count = grind (arith, p.len, i.count);
      room = grind (arith, p.capacity, i.room);
      answers = rw (p.items, take_more items c.loop-cell.cell-index c.cell-item.result lt, ← c.cell-item.is) (AllZip-append _ _ _ c.cell-item.result c.f.result i.answers (record { shown = _; shows = refl; says = record { met = m } }));
    }

pub f-requires : goal.f-requires
f-requires g c =
    let items = c.as_slice-cell-items.result.now in
    let whole : CallableAtRefs _ _ items = subst (CallableAtRefs _ _) (sym (c.as_slice-cell-items.ensures.value ∙ c.self.view_is)) c.requires in
    whole.at c.loop-cell.cell-index _ (omega arith) c.cell-item.is
