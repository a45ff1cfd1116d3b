use Rattle.std.proofs.Common.{◌≡◌, ◌<◌, ℕ, false}
use Rattle.grid_images.specs.Prelude.{symmetry_at, takes}
use Rattle.grid_images.proofs.between.symmetry_between.Given as goal

abbrev pub invariant-loop-symmetry : goal.invariant-loop-symmetry
invariant-loop-symmetry g l = (j : ℕ) → j < l.symmetry-index → takes g.T.PartialEq.eq (g.V.AsView.rows l.fn.board) (g.W.AsView.rows l.fn.other) (symmetry_at j) ≡ false
