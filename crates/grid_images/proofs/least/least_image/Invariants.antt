use Rattle.std.proofs.Common.{◌≡◌}
use Rattle.grid_base.proofs.Common.{act}
use Rattle.grid_images.proofs.LeastLemmas.{IsLeastOf}
use Rattle.grid_images.proofs.least.least_image.Given as goal

abbrev pub invariant-loop-i : goal.invariant-loop-i
invariant-loop-i g l =
    (l.least_view.rows ≡ act l.least (g.V.AsView.rows l.fn.board))
    × IsLeastOf g.T.Ord.cmp (g.V.AsView.rows l.fn.board) l.i l.least
