use Rattle.std.proofs.Common.{◌≡◌, arith, ap, ◌∙◌, ◌++◌, ◌∷◌, [], length, append_assoc, append-nil}
use Rattle.grid_base.proofs.Common.{positions_of}
use Rattle.grid_base.proofs.Lemmas.{AllZip-append, AllZip-length, callable_item, length-places}
use Rattle.grid_base.proofs.flat.Flat.try_from_fn.Goals as goal

pub loop-at-init : goal.loop-at-init
loop-at-init g c =
    let from : c.into_iter-at-iterator.result ≡ positions_of c.args.layout = c.into_iter-at-iterator.ensures.into_iter_gives ∙ c.new-positions.ensures in
    let count = length-places c.args.layout.order c.args.layout.rows c.args.layout.cols c.args.layout.size in
    record {
      can = tt;
      finite = tt;
      done = [];
      split = from;
      room = omega (arith, ap length from, count, c.in_ok-cells.ensures.len, c.in_ok-cells.ensures.capacity);
      answers = rw c.in_ok-cells.ensures.items tt;
    }

pub loop-at-preserved : goal.loop-at-preserved
loop-at-preserved g c =
    let i = c.loop-at.invariant in
    let s = c.in-Some.ensures.steps in
    let p = c.push_reserved.ensures in
    record {
      can = tt;
      finite = tt;
      done = i.done ++ c.in-Some.at ∷ [];
      split = rw append_assoc (rw s at i.split);
      room = grind (arith, p.len, p.capacity, ap length s, i.room);
      answers = rw p.items (AllZip-append _ _ _ c.in-Some.at c.in-Ok.cell i.answers c.in-Ok.ensures);
    }

pub f-requires : goal.f-requires
f-requires g c =
    let i = c.loop-at.invariant in
    callable_item _ _ _ _ _ c.in-Some.at c.requires.calls (rw c.in-Some.ensures.steps at i.split)

pub push_reserved-requires : goal.push_reserved-requires
push_reserved-requires g c =
    let i = c.loop-at.invariant in
    grind (arith, ap length c.in-Some.ensures.steps, i.room)

pub returns-in-Err-clause-failed : goal.returns-in-Err-clause-failed
returns-in-Err-clause-failed g c =
    let i = c.loop-at.invariant in
    record {
      done = i.done;
      at = c.in-Some.at;
      rest = c.next.new.self;
      answers = c.loop-at.cells.items;
      split = rw c.in-Some.ensures.steps at i.split;
      before = i.answers;
      fails = c.in-Err.ensures;
    }

pub returns-clause-len : goal.returns-clause-len
returns-clause-len g c =
    let i = c.loop-at.invariant in
    let whole = rw (c.in-None.ensures.steps.0, append-nil) at i.split in
    AllZip-length _ _ _ i.answers ∙ (ap length whole ∙ length-places c.args.layout.order c.args.layout.rows c.args.layout.cols c.args.layout.size)

pub returns-clause-cells : goal.returns-clause-cells
returns-clause-cells g c =
    let i = c.loop-at.invariant in
    let whole = rw (c.in-None.ensures.steps.0, append-nil) at i.split in
    record { places = rw (← whole) i.answers }
