use Rattle.std.proofs.Common.{◌≡◌, ℕ, Bool, List, ◌≤◌, ◌+◌, length}
use Rattle.grid_near.specs.declared.steps.Connectivity.{Connectivity}
use Rattle.grid_paths.proofs.Common.{IsPath, IsMarked, HasLeastUpTo}
use Rattle.grid_paths.proofs.path.follow.Given as goal

abbrev pub invariant-loop-left : goal.invariant-loop-left
invariant-loop-left g l =
    record {
      mark : IsMarked l.steps.rows l.at l.left;
      path : (connectivity : Connectivity) (mask : List (List Bool)) (to : ℕ × ℕ) → HasLeastUpTo connectivity mask to l.steps.rows l.initial.left → IsPath connectivity mask l.fn.from l.at l.path.items;
      most : l.left ≤ l.initial.left;
      len : length l.path.items + l.left ≡ l.initial.left + 1;
    }

abbrev pub decreases-loop-left : goal.decreases-loop-left
decreases-loop-left g l = l.left
