use Rattle.std.specs.Cmp.Lexicographic.{slice_cmp}
use Rattle.grid_images.proofs.OrderLemmas.{AreTied}
use Rattle.grid_images.proofs.order.compare_views.Given as goal

abbrev pub invariant-loop-r : goal.invariant-loop-r
invariant-loop-r g l = AreTied (slice_cmp g.T.Ord.cmp) l.r l.fn.board.rows l.fn.other.rows
