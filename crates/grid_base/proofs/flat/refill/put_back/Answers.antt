use Rattle.std.proofs.Common.{◌<◌, ◌+◌, false, inl, inr, ⊎_elim, refl, ap, arith, ◌∙◌, get_or, get_or-set_same, get_or-set_other, set, length, subst}
use Rattle.core.proofs.slots.Fills.{Filled-apart, Filled-put, Filled-within}
use Rattle.grid_base.proofs.Common.{cases_lt}
use Rattle.grid_base.specs.Refill.{PutBack}
use Rattle.grid_base.proofs.Lemmas.{same_places, places_then}
use Rattle.grid_base.proofs.flat.refill.put_back.Goals as goal

pub loop-at-init : goal.loop-at-init
loop-at-init g c = record {
  row = record { places = same_places c.args.row.now; full = c.requires.row.1 };
  room = same_places c.args.room.now;
  held = refl;
  waits = c.requires.room.1;
  cells = record { first = λ k d h. absurd (omega arith); rest = λ k d h. refl };
}

pub take-requires : goal.take-requires
take-requires g c =
    let inv = c.loop-at.invariant in
    let inside : c.loop-at.at < c.loop-at.row.len = omega (arith, c.requires.row.0, inv.row.places.count) in
    (inside, inv.row.full c.loop-at.at (omega arith) inside)

pub move_to-requires : goal.move_to-requires
move_to-requires g c =
    let inv = c.loop-at.invariant in
    (omega (arith, c.requires.room.0, inv.room.count), omega (arith, c.requires.row.0, inv.row.places.count, c.take.ensures.places.count), inv.waits c.loop-at.at (omega arith) (omega arith))

pub loop-at-preserved : goal.loop-at-preserved
loop-at-preserved g c =
    let inv = c.loop-at.invariant in
    let at = c.loop-at.at in
    let took = c.take.ensures in
    let moved = c.move_to.ensures in
    let row0 = c.loop-at.row in
    let row1 = c.take.new.self in
    let row2 = c.move_to.new.other in
    let room0 = c.loop-at.room in
    let count = c.take.ensures.places.count in
    let inside : at < row0.len = omega (arith, c.requires.row.0, inv.row.places.count) in
    let within : at < length row1.items = omega (arith, inside, count, row1.ok.0) in
    record {
      row = record {
        places = places_then inv.row.places (places_then took.places moved.places.1);
        full = Filled-put row1.filled row2.filled at 0 row2.len moved.filled (omega (arith, inside, count, row1.ok.1))
            (Filled-apart row0.filled row1.filled at false 0 at took.filled (inr (omega arith)) (Filled-within row0.filled 0 row0.len 0 at (omega arith) (omega arith) inv.row.full))
            (Filled-apart row0.filled row1.filled at false (at + 1) row2.len took.filled (inl (omega arith))
            (Filled-within row0.filled 0 row0.len (at + 1) row2.len (omega arith) (omega (arith, count, moved.places.1.count)) inv.row.full));
      };
      room = places_then inv.room moved.places.0;
      held = moved.left.0 ∙ inv.held;
      waits = Filled-apart room0.filled _ at false _ _ moved.left.1 (inl (omega arith)) (Filled-within room0.filled at c.args.count _ _ (omega arith) (omega arith) inv.waits);
      cells = record {
        first = λ k d h.
            ap (λ l. get_or l k d) (moved.items d)
            ∙ ⊎_elim (λ lt. get_or-set_other row1.items at k (get_or room0.items at d) d (omega arith) ∙ (ap (λ l. get_or l k d) took.items ∙ inv.cells.first k d lt))
            (λ ge. ap (λ j. get_or (set row1.items at (get_or room0.items at d)) j d) (omega arith)
            ∙ (get_or-set_same row1.items at (get_or room0.items at d) d within ∙ (ap (λ l. get_or l at d) inv.held ∙ ap (λ j. get_or c.args.room.now.items j d) (omega arith)))) (cases_lt k at);
        rest = λ k d h.
            ap (λ l. get_or l k d) (moved.items d)
            ∙ (get_or-set_other row1.items at k (get_or room0.items at d) d (omega arith) ∙ (ap (λ l. get_or l k d) took.items ∙ inv.cells.rest k d (omega arith)));
      };
    }

pub returns-clause-room : goal.returns-clause-room
returns-clause-room g c = c.loop-at.invariant.room

pub returns-clause-row : goal.returns-clause-row
returns-clause-row g c = c.loop-at.invariant.row

pub returns-clause-cells : goal.returns-clause-cells
returns-clause-cells g c =
    subst (λ n. PutBack n c.args.room.now.items c.args.row.now.items c.loop-at.row.items) (omega arith) c.loop-at.invariant.cells
