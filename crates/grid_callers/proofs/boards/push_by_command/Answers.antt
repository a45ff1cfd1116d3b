use Rattle.grid_callers.proofs.boards.push_by_command.Goals.{in-Refused, in_default}
use Rattle.grid_callers.proofs.boards.push_by_command.Goals as goal

pub returns-clause-rows : goal.returns-clause-rows
returns-clause-rows g c =
    elim c.match-branch-2.branch [ in-Refused w ↦ rw w.result-is (λ d. c.in_ok-refusal.ensures.stepped.rows d tt) | in_default w ↦ rw w.result-is (λ d. c.in_ok-refusal.ensures.stepped.rows d tt) ]
