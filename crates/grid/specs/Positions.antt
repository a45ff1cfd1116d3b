-- A position at a distance from another, and the positions that an iterator gives.
use Rattle.std.specs.Prelude.{◌≡◌, ◌^◌, ◌<◌, ℕ, ℤ, pos, ◌+ℤ◌, List, length}
use Rattle.std.specs.Iterator.{YieldsFirst}
use Rattle.std.specs.Iterator.Runs.{EachRunFrom, AllItems}
use Rattle.grid_base.specs.Table.{row_count, col_count, InRange}
use Rattle.grid_base.specs.Positions.{positions}
use Rattle.grid_base.specs.declared.order.Order.TheVariants.{RowMajor}

-- `to` is by.0 rows down and by.1 columns to the right of `at`
abbrev pub IsOffset : ℕ × ℕ → ℤ × ℤ → ℕ × ℕ → Type 0
IsOffset at by to = (pos to.0 ≡ pos at.0 +ℤ by.0) × (pos to.1 ≡ pos at.1 +ℤ by.1)

-- an iterator gives the positions of a table, row by row, and each is in range
abbrev pub GivesIndices : {T : Type 0} → List (List T) → List (ℕ × ℕ) → Type 0
GivesIndices t it = (it ≡ positions RowMajor (row_count t) (col_count t))
    × EachRunFrom (YieldsFirst (λ (rest : List (ℕ × ℕ)). rest)) it
    (λ p. AllItems p (λ at. InRange t at.0 at.1))
    × (length it < 2 ^ 64)
