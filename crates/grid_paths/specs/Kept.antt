-- The settled positions that a path keeps. No public clause cites this module.
use Rattle.std.specs.Prelude.{List, map}
use Rattle.grid_paths.specs.declared.costs.Kept.{Kept}
use Rattle.grid_paths.specs.declared.costs.Settled.{Settled}
use Rattle.grid_paths.specs.Width.{Reading}

module _ {N : Type 0} where
  abbrev pub settled_of : Reading N → Kept N → Settled
  settled_of w x = record { at = w.position x.place; cost = x.cost; sum = w.value x.sum }

  abbrev pub trail_of : Reading N → List (Kept N) → List Settled
  trail_of w kept = map (settled_of w) kept
