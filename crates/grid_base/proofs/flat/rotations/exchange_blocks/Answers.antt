use Rattle.grid_base.proofs.Lemmas.{exchanged_by_reversals}
use Rattle.grid_base.proofs.flat.rotations.exchange_blocks.Goals as goal

pub returns-then-few : goal.returns-then-few
returns-then-few g c =
    exchanged_by_reversals _ _ _ _ c.reverse_part.new.cells c.reverse_part-then-few.new.cells _ c.reverse_part.ensures c.reverse_part-then-few.ensures c.reverse_part-then-few-2.ensures
