-- Cells whose places are a step apart. A step back is one modulo 2 ^ 64. No public clause cites this
-- module.
use Rattle.std.specs.Prelude.{ℕ, ◌+◌, ◌*◌, ◌%◌, ◌^◌, ◌<◌, List, slice_get}
use Rattle.grid_base.specs.Table.{cells_by}

-- the place `k` steps from a place on
abbrev pub stepped : ℕ → ℕ → ℕ → ℕ
stepped place step k = (place + k * step) % 2 ^ 64

-- the cells at the first `left` of these places
abbrev pub stepped_cells : {T : Type 0} → ℕ → ℕ → ℕ → List T → List T
stepped_cells place step left cells = cells_by left (λ k. slice_get cells (stepped place step k))

-- these places are within a slice of `len` cells
pub record AreStepped (place step left len : ℕ) : Type 0 where
  pub within : (k : ℕ) → k < left → stepped place step k < len
