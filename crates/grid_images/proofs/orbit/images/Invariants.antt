use Rattle.std.proofs.Common.{◌≡◌, take}
use Rattle.std.specs.List.{filter}
use Rattle.grid_images.specs.Prelude.{symmetries, is_first}
use Rattle.grid_images.proofs.orbit.images.Given as goal

abbrev pub invariant-loop-i : goal.invariant-loop-i
invariant-loop-i g l = l.found ≡ filter (is_first g.T.PartialEq.eq (g.V.AsView.rows l.fn.board)) (take l.i symmetries)
