use Rattle.grid_base.proofs.Lemmas.{Moving}
use Rattle.grid_base.proofs.flat.ends.move_last.Given as goal

abbrev pub invariant-loop-moved : goal.invariant-loop-moved
invariant-loop-moved g l = Moving l.start l.n l.moved l.fn.cells l.cells l.fn.line.items l.line.items
