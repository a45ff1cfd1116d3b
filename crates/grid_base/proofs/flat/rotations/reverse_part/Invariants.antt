use Rattle.grid_base.proofs.Lemmas.{Turning}
use Rattle.grid_base.proofs.flat.rotations.reverse_part.Given as goal

abbrev pub invariant-loop-i : goal.invariant-loop-i
invariant-loop-i g l = Turning l.start l.n l.i l.fn.cells l.cells
