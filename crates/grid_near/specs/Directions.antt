-- Positions one step apart.
use Rattle.std.specs.Prelude.{◌≡◌, ℕ, ◌+◌, ◌<◌}
use Rattle.grid_near.specs.Around.{around}
use Rattle.grid_near.specs.declared.direction.Direction.{Direction}
use Rattle.grid_near.specs.declared.direction.Direction.TheVariants.{Up, UpRight, Right, DownRight, Down, DownLeft, Left, UpLeft}

-- the row and the column, from 0, of the cell in a direction from the middle of three rows and columns
abbrev pub box_of : Direction → ℕ × ℕ
box_of Up = (0, 1)
box_of UpRight = (0, 2)
box_of Right = (1, 2)
box_of DownRight = (2, 2)
box_of Down = (2, 1)
box_of DownLeft = (2, 0)
box_of Left = (1, 0)
box_of UpLeft = (0, 0)

-- the index of a direction, clockwise from the one up
abbrev pub clockwise : Direction → ℕ
clockwise Up = 0
clockwise UpRight = 1
clockwise Right = 2
clockwise DownRight = 3
clockwise Down = 4
clockwise DownLeft = 5
clockwise Left = 6
clockwise UpLeft = 7

-- `to` is one step from `at` in a direction
abbrev pub IsBeside : Direction → ℕ × ℕ → ℕ × ℕ → Type 0
IsBeside way at to = (to.0 + 1 ≡ at.0 + (box_of way).0) × (to.1 + 1 ≡ at.1 + (box_of way).1)

-- the position one step from `at` in a direction, within a size whose edges meet
abbrev pub wrapped_beside : Direction → ℕ × ℕ → ℕ × ℕ → ℕ × ℕ
wrapped_beside way size at =
    (around size.0 at.0 (box_of way).0, around size.1 at.1 (box_of way).1)

-- a position is within a size
abbrev pub IsWithin : ℕ × ℕ → ℕ × ℕ → Type 0
IsWithin size at = (at.0 < size.0) × (at.1 < size.1)
