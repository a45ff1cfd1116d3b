use Rattle.grid_base.proofs.Common.{common_steps}
use Rattle.grid_base.proofs.Lemmas.{MapsThrough-append, callable_next}
use Rattle.std.proofs.Common.{arith, length-append, append_assoc}
use Rattle.grid_base.proofs.flat.Flat.map.Goals as goal

pub loop-cell-preserved : goal.loop-cell-preserved
loop-cell-preserved g c =
    let i = c.loop-cell.invariant in
    let s = c.in-Some.ensures.steps in
    let p = c.push_reserved.ensures in
    record {
      can = tt;
      finite = tt;
      rest = rw append_assoc (rw s.0 at i.rest);
      count = grind (arith, p.len, i.count, length-append);
      room = grind (arith, p.capacity, i.room);
      answers = rw p.items (MapsThrough-append _ _ _ c.f.new.self _ _ c.in-Some.cell c.f.result i.answers c.f.ensures);
    }

pub f-requires : goal.f-requires
f-requires g c =
    let i = c.loop-cell.invariant in
    let s = c.in-Some.ensures.steps in
    callable_next _ _ _ _ _ _ _ c.in-Some.cell _ c.requires (rw s.0 at i.rest) i.answers

pub push_reserved-requires : goal.push_reserved-requires
push_reserved-requires g c = grind (arith, common_steps)

pub returns-clause-len : goal.returns-clause-len
returns-clause-len g c = grind (arith, common_steps)

pub returns-clause-cells : goal.returns-clause-cells
returns-clause-cells g c = grind (arith, common_steps)
