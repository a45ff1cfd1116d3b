use Rattle.std.proofs.Common.{ℕ, ◌≤◌, List, Option, length}
use Rattle.grid_paths.proofs.Common.{IsTrail}
use Rattle.grid_paths.proofs.Lemmas.{IsFollowed}
use Rattle.grid_paths.specs.Kept.{trail_of}
use Rattle.grid_paths.proofs.cheap_path.follow.Given as goal

abbrev pub invariant-loop-left : goal.invariant-loop-left
invariant-loop-left g l =
    record {
      within : l.left ≤ length l.trail.items;
      follows : (costs : List (List (Option ℕ))) (from : ℕ × ℕ) → IsTrail l.connectivity from costs (trail_of g.N.Width.reads l.trail.items) → IsFollowed l.connectivity from costs (trail_of g.N.Width.reads l.trail.items) l.fn.last l.here l.left l.path.items;
    }

abbrev pub decreases-loop-left : goal.decreases-loop-left
decreases-loop-left g l = l.left
