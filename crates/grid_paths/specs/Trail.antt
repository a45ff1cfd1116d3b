-- The positions in the order in which the search settles them. No public clause cites this module.
use Rattle.std.specs.Prelude.{◌≡◌, ℕ, ◌+◌, ◌<◌, ◌⊎◌, Option, Some, List, slice_get}
use Rattle.grid_near.specs.declared.steps.Connectivity.{Connectivity}
use Rattle.grid_paths.specs.Walks.{IsStep}
use Rattle.grid_paths.specs.declared.costs.Settled.{Settled}
use Rattle.grid_paths.specs.Cheapest.{Holds}
use Rattle.grid_paths.specs.Relaxing.{IsClosed}

module _ (connectivity : Connectivity) (from : ℕ × ℕ) where
  -- the first position, or one whose sum comes from that of a position at a place before n
  abbrev pub ComesBefore : List Settled → ℕ → Settled → Type 0
  ComesBefore trail n x =
      ((x.at ≡ from) × (x.sum ≡ 0))
      ⊎ ((i : ℕ) × (y : Settled) × (i < n) × (slice_get trail i ≡ Some y)
      × IsStep connectivity y.at x.at
      × (x.sum ≡ y.sum + x.cost))

  module _ (costs : List (List (Option ℕ))) where
    -- each sum comes from that of a position before it, and no position is there twice
    pub record IsTrail (trail : List Settled) : Type 0 where
      pub cost : (j : ℕ) (x : Settled) → slice_get trail j ≡ Some x → Holds costs x.at x.cost
      pub before : (j : ℕ) (x : Settled) → slice_get trail j ≡ Some x → ComesBefore trail j x
      pub once : (i j : ℕ) (x y : Settled) → slice_get trail i ≡ Some x → slice_get trail j ≡ Some y
          → x.at ≡ y.at → i ≡ j

-- the settled positions are on the trail
abbrev pub IsTrailOf : List (List (Option ℕ)) → List (List (Option ℕ)) → List Settled → Type 0
IsTrailOf u left trail =
    (a : ℕ × ℕ) (m : ℕ) → Holds u a m → IsClosed left a
    → (j : ℕ) × (x : Settled) × (slice_get trail j ≡ Some x) × (x.at ≡ a) × (x.sum ≡ m)
