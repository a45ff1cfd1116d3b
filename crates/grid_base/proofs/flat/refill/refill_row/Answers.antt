use Rattle.std.proofs.Common.{◌≡◌, ◌<◌, ◌-◌, ◌+◌, false, inl, inr, ⊎_elim, ap, sym, arith, ◌∙◌, get_or, get_or-set_same, get_or-set_other, set, length}
use Rattle.core.proofs.slots.Fills.{Filled-apart, Filled-put, Filled-within}
use Rattle.grid_base.proofs.Common.{cases_lt, same_lists, length-replicate, get_or-replicate}
use Rattle.grid_base.proofs.Lemmas.{places_then}
use Rattle.grid_base.proofs.flat.refill.refill_row.Goals as goal

pub loop-at-preserved : goal.loop-at-preserved
loop-at-preserved g c =
    let inv = c.loop-at.invariant in
    let at = c.loop-at.at in
    let cell = c.in-Ok.cell in
    let moved = c.move_to.ensures in
    let put = c.put.ensures in
    let row0 = c.loop-at.row in
    let row1 = c.move_to.new.self in
    let row2 = c.put.new.self in
    let room0 = c.loop-at.room in
    let count = moved.places.0.count in
    let inside : at < row0.len = omega (arith, inv.row.places.count) in
    let within : at < length row1.items = omega (arith, inside, count, row1.ok.0) in
    let free : at < length room0.items = omega (arith, c.requires.room, inv.room.count, room0.ok.0) in
    record {
      row = record {
        places = places_then inv.row.places (places_then moved.places.0 put.places);
        full = Filled-put row1.filled row2.filled at 0 row2.len put.filled (omega (arith, inside, count, row1.ok.1))
            (Filled-apart row0.filled row1.filled at false 0 at moved.left.1 (inr (omega arith)) (Filled-within row0.filled 0 row0.len 0 at (omega arith) (omega arith) inv.row.full))
            (Filled-apart row0.filled row1.filled at false (at + 1) row2.len moved.left.1 (inl (omega arith))
            (Filled-within row0.filled 0 row0.len (at + 1) row2.len (omega arith) (omega (arith, count, put.places.count)) inv.row.full));
      };
      room = places_then inv.room moved.places.1;
      waits = Filled-put room0.filled _ at 0 (at + 1) moved.filled (omega (arith, c.requires.room, inv.room.count, room0.ok.1)) inv.waits (λ k p q. absurd (omega arith));
      held = λ k d h.
          ap (λ l. get_or l k d) (moved.items d)
          ∙ ⊎_elim (λ lt. get_or-set_other room0.items at k (get_or row0.items at d) d (omega arith) ∙ inv.held k d lt)
          (λ ge. ap (λ j. get_or (set room0.items at (get_or row0.items at d)) j d) (omega arith)
          ∙ (get_or-set_same room0.items at (get_or row0.items at d) d free ∙ (inv.rest at d (omega arith) ∙ ap (λ j. get_or c.args.job.0.items j d) (omega arith)))) (cases_lt k at);
      clones = λ k d h equal.
          ap (λ l. get_or l k d) put.items
          ∙ ⊎_elim (λ lt. get_or-set_other row1.items at k cell d (omega arith) ∙ (ap (λ l. get_or l k d) moved.left.0 ∙ inv.clones k d lt equal))
          (λ ge. ap (λ j. get_or (set row1.items at cell) j d) (omega arith) ∙ (get_or-set_same row1.items at cell d within ∙ equal _ _ c.in-Ok.ensures.cases)) (cases_lt k at);
      rest = λ k d h.
          ap (λ l. get_or l k d) put.items
          ∙ (get_or-set_other row1.items at k cell d (omega arith) ∙ (ap (λ l. get_or l k d) moved.left.0 ∙ inv.rest k d (omega arith)));
    }

pub returns-in-Err-clause-cells : goal.returns-in-Err-clause-cells
returns-in-Err-clause-cells g c =
    let inv = c.loop-at.invariant in
    let back = c.put_back.ensures in
    let old = c.args.job.0 in
    let row0 = c.loop-at.row in
    let row1 = c.put_back.new.row in
    let long : length row1.items ≡ length old.items = omega (arith, row1.ok.0, old.ok.0, inv.row.places.count, back.row.places.count) in
    record {
      ok = tt;
      err = same_lists row1.items old.items long (λ k d h.
          ⊎_elim (λ lt. back.cells.first k d lt ∙ inv.held k d lt) (λ ge. back.cells.rest k d ge ∙ inv.rest k d ge) (cases_lt k c.loop-at.at));
    }

pub returns-clause-cells : goal.returns-clause-cells
returns-clause-cells g c =
    let inv = c.loop-at.invariant in
    let put = c.put-2.ensures in
    let value = c.args.job.1 in
    let old = c.args.job.0 in
    let row0 = c.loop-at.row in
    let row1 = c.take.new.self in
    let row2 = c.put-2.new.self in
    let len = c.len-last.ensures in
    let last = c.len-last.result - 1 in
    let count = c.take.ensures.places.count in
    let within : last < length row1.items = omega (arith, c.requires.some, inv.row.places.count, count, row1.ok.0) in
    let long : length row2.items ≡ length old.items = omega (arith, row2.ok.0, old.ok.0, inv.row.places.count, count, put.places.count) in
    record {
      ok = λ equal. same_lists row2.items _ (long ∙ sym (length-replicate (length old.items) value)) (λ k d h.
          ap (λ l. get_or l k d) put.items
          ∙ ⊎_elim (λ lt. get_or-set_other row1.items last k value d (omega arith) ∙ (ap (λ l. get_or l k d) c.take.ensures.items ∙ inv.clones k d (omega arith) equal))
          (λ ge. ap (λ j. get_or (set row1.items last value) j d) (omega (arith, h, long, old.ok.0)) ∙ get_or-set_same row1.items last value d within) (cases_lt k last)
          ∙ sym (get_or-replicate (length old.items) k value d (omega (arith, h, long))));
      err = tt;
    }
