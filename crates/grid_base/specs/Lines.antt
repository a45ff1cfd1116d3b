-- The cells of a line of a table that a slice stores.
use Rattle.std.specs.Prelude.{ℕ, ◌+◌, ◌-◌, ◌*◌, Bool, true, false, List, slice_get}
use Rattle.grid_base.specs.Table.{cells_by}

-- index k of n, counted from the end or not
abbrev pub counted : Bool → ℕ → ℕ → ℕ
counted true n k = n - 1 - k
counted false n k = k

-- the `count` cells that are `stride` places apart, the first of them at place `start`; the last
-- first, or not
abbrev pub line_cells : {T : Type 0} → ℕ → ℕ → ℕ → Bool → List T → List T
line_cells start count stride backwards cells =
    cells_by count (λ k. slice_get cells (start + counted backwards count k * stride))
