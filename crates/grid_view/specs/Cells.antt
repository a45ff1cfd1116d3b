-- What the iterators over all cells of a view keep. No public clause cites this module.
use Rattle.std.specs.Prelude.{◌≡◌, ℕ, ◌+◌, ◌*◌, ◌^◌, ◌<◌, ◌≤◌, List, length, drop}
use Rattle.grid_base.specs.Prelude.{row, positions, StandsAt}
use Rattle.grid_base.specs.declared.order.Order.TheVariants.{RowMajor}

-- each of the rows that are not begun has `width` cells, and some; and all cells that are left,
-- with those of the rows begun at either end, are fewer than 2 ^ 64
pub record AreCellsLeft {T : Type 0} (width : ℕ) (line : List T) (rows : List (List T))
    (last : List T) : Type 0 where
  pub long : (r : ℕ) → r < length rows → length (row rows r) ≡ width
  pub some : 0 < length rows → 0 < width
  pub below : length line + length rows * width + length last < 2 ^ 64

-- the positions of m rows and n columns, row by row, from (r, c) on
abbrev pub positions_from : ℕ → ℕ → ℕ → ℕ → List (ℕ × ℕ)
positions_from m n r c = drop (r * n + c) (positions RowMajor m n)

-- (r, c) is a position of m rows and n columns, or comes after the last, and there are `count` from
-- it on
pub record ArePlaced (m n r c count : ℕ) : Type 0 where
  pub stands : StandsAt RowMajor m n r c
  pub within : r * n + c + count ≤ m * n
