use Rattle.std.proofs.Common.{false, inl, arith}
use Rattle.core.proofs.slots.Fills.{Filled-apart, Filled-within}
use Rattle.grid_base.proofs.Lemmas.{same_places, places_then}
use Rattle.grid_base.proofs.flat.refill.drop_first.Goals as goal

pub loop-at-init : goal.loop-at-init
loop-at-init g c = record { places = same_places c.args.room.now; waits = c.requires.1 }

pub take-requires : goal.take-requires
take-requires g c =
    let inv = c.loop-at.invariant in
    (omega (arith, c.requires.0, inv.places.count), inv.waits c.loop-at.at (omega arith) (omega arith))

pub loop-at-preserved : goal.loop-at-preserved
loop-at-preserved g c =
    let inv = c.loop-at.invariant in
    let took = c.take.ensures in
    record {
      places = places_then inv.places took.places;
      waits = Filled-apart c.loop-at.room.filled _ c.loop-at.at false _ _ took.filled (inl (omega arith)) (Filled-within c.loop-at.room.filled c.loop-at.at c.args.count _ _ (omega arith) (omega arith) inv.waits);
    }
