-- Positions that can be reached by steps in a direction. No public clause cites this module.
use Rattle.std.specs.Prelude.{ℕ, ◌+◌, ◌*◌, ◌<◌, ◌≤◌, List}
use Rattle.grid_base.specs.Table.{cells_by}
use Rattle.grid_rays.specs.Rays.{cell_ahead}

-- the position k steps from `at` is within a size, where a step goes from (1, 1) to `step`
pub record Reaches (size step at : ℕ × ℕ) (k : ℕ) : Type 0 where
  pub above : k ≤ at.0 + k * step.0
  pub below : at.0 + k * step.0 < size.0 + k
  pub before : k ≤ at.1 + k * step.1
  pub after : at.1 + k * step.1 < size.1 + k

-- and so are those before it
pub record HasSteps (size step at : ℕ × ℕ) (count : ℕ) : Type 0 where
  pub each : (k : ℕ) → 0 < k → k ≤ count → Reaches size step at k

-- the cells at the first `count` of these positions
abbrev pub cells_ahead : {T : Type 0} → List (List T) → ℕ × ℕ → ℕ × ℕ → ℕ → List ((ℕ × ℕ) × T)
cells_ahead t step at count = cells_by count (λ k. cell_ahead t step at (k + 1))
