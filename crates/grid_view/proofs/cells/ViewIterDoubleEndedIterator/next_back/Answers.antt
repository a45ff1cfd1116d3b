use Rattle.std.proofs.Common.{arith}
use Rattle.std.proofs.lemmas.Grind.{common_steps}
use Rattle.grid_view.proofs.CellLemmas.{cells_next_back, cells_step_back}
use Rattle.grid_view.proofs.cells.ViewIterDoubleEndedIterator.next_back.Goals as goal

pub invariant_of-self-in-Some-next_back_stepped : goal.invariant_of-self-in-Some-next_back_stepped
invariant_of-self-in-Some-next_back_stepped g c =
    cells_next_back _ _ _ _ _ _ c.self.invariant c.in-Some-next_back_stepped.ensures _ _ c.next_back-in-Some-next_back_stepped.ensures.steps

pub returns-in-Some-next_back_stepped-clause-steps : goal.returns-in-Some-next_back_stepped-clause-steps
returns-in-Some-next_back_stepped-clause-steps g c =
    rw (← c.self.view_is)
    (cells_step_back _ _ _ _ _ _ c.self.invariant c.in-Some-next_back_stepped.ensures c.in-None.ensures.steps.0 _ _ c.next_back-in-Some-next_back_stepped.ensures.steps)

pub returns-in-Some-clause-steps : goal.returns-in-Some-clause-steps
returns-in-Some-clause-steps g c = grind (arith, common_steps)
