-- A board made larger.
use Rattle.std.specs.Prelude.{ℕ, ◌*◌, ◌/◌, List}
use Rattle.grid_base.specs.Table.{row_count, col_count, cell, tabulate}

-- the table in which each cell fills a square of `scale` rows and columns
abbrev pub enlarged : {T : Type 0} → ℕ → List (List T) → List (List T)
enlarged scale t = tabulate (row_count t * scale) (col_count t * scale)
    (λ r c. cell t (r / scale) (c / scale))
