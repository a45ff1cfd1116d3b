use Rattle.std.proofs.Common.{arith, refl}
use Rattle.grid_base.proofs.ApartLemmas.{passing_none, passing_more, passing_end}
use Rattle.grid_base.proofs.flat.rotations.exchange_apart.Goals as goal

pub loop-end-init : goal.loop-end-init
loop-end-init g c =
    record {
      run = passing_none _ _ _ _ refl;
      from = omega arith;
      within = omega arith;
    }

pub loop-end-preserved : goal.loop-end-preserved
loop-end-preserved g c =
    record {
      run = passing_more _ c.loop-end.end _ _ _ _ _ _ _ (omega arith) (omega arith) c.loop-end.invariant.run c.swap_parts.ensures.taken c.swap_parts.ensures.given;
      from = omega arith;
      within = omega arith;
    }

pub returns-clause-exchanged : goal.returns-clause-exchanged
returns-clause-exchanged g c =
    passing_end _ _ c.loop-end.end _ _ _ _ _ _ _ _ _ (omega arith) (omega arith) refl (omega arith) c.loop-end.invariant.run c.swap_parts-2.ensures.taken c.swap_parts-2.ensures.given c.exchange_blocks.ensures
