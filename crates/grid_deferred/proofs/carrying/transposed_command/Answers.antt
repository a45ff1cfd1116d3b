use Rattle.grid_deferred.proofs.Lemmas.{between}
use Rattle.grid_deferred.proofs.carrying.transposed_command.Goals as goal

pub returns-in-Apply : goal.returns-in-Apply
returns-in-Apply g c = rw c.in-Apply.is (between _ _ _ _ c.then.ensures c.then-in-Apply.ensures)
