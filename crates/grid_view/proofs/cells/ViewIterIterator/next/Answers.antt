use Rattle.std.proofs.Common.{arith}
use Rattle.std.proofs.lemmas.Grind.{common_steps}
use Rattle.grid_view.proofs.CellLemmas.{cells_next, cells_step}
use Rattle.grid_view.proofs.cells.ViewIterIterator.next.Goals as goal

pub invariant_of-self-in-Some-next_stepped : goal.invariant_of-self-in-Some-next_stepped
invariant_of-self-in-Some-next_stepped g c = cells_next _ _ _ _ _ _ c.self.invariant c.in-Some-next_stepped.ensures _ _ c.next-in-Some-next_stepped.ensures.steps

pub returns-in-Some-next_stepped-clause-steps : goal.returns-in-Some-next_stepped-clause-steps
returns-in-Some-next_stepped-clause-steps g c =
    rw (← c.self.view_is)
    (cells_step _ _ _ _ _ _ c.self.invariant c.in-Some-next_stepped.ensures c.in-None.ensures.steps.0 _ _ c.next-in-Some-next_stepped.ensures.steps)

pub returns-in-Some-clause-steps : goal.returns-in-Some-clause-steps
returns-in-Some-clause-steps g c = grind (arith, common_steps)
