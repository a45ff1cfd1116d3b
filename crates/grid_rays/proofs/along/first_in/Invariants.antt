use Rattle.grid_rays.specs.Rays.{ray}
use Rattle.grid_rays.proofs.AlongLemmas.{IsPassing}
use Rattle.grid_rays.proofs.along.first_in.Given as goal

abbrev pub invariant-loop-to : goal.invariant-loop-to
invariant-loop-to g l =
    (goal.iterator-loop-to g).can_next l.to-iterator
    × (goal.iterator-loop-to g).is_finite l.to-iterator
    × IsPassing (ray l.fn.board.rows l.fn.way l.fn.at) (goal.F-post g) l.fn.test l.to-iterator
