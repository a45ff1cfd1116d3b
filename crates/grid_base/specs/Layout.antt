-- The positions and the lines of a layout.
use Rattle.std.specs.Prelude.{ℕ, List}
use Rattle.grid_base.specs.declared.layout.Layout.{Layout}
use Rattle.grid_base.specs.Positions.{positions, along}

-- the row and the column of each cell, in storage order
abbrev pub positions_of : Layout → List (ℕ × ℕ)
positions_of l = positions l.order l.rows l.cols

-- the number of lines along the storage, and their length
abbrev pub lines_of : Layout → ℕ × ℕ
lines_of l = along l.order l.rows l.cols
