-- The rule of Life, on a board whose edges meet.
use Rattle.std.specs.Prelude.{ℕ, Bool, ◌&&◌, ◌||◌, ◌==◌, Option, List, option_map, count_by}
use Rattle.grid.specs.Prelude.{row_count, col_count, cell, tabulate, wrapped_neighbors8}

-- whether a cell is live in the next generation: with three live neighbors, or with two if it is
-- live
abbrev pub rule : Bool → ℕ → Bool
rule live near = (near == 3) || (live && (near == 2))

-- how many of the eight neighbors of a cell are live
abbrev pub live_neighbors : List (List Bool) → ℕ → ℕ → ℕ
live_neighbors t r c = count_by (λ near. near.1) (wrapped_neighbors8 t r c)

-- the table of the next generation
abbrev pub next_table : List (List Bool) → List (List Bool)
next_table t = tabulate (row_count t) (col_count t)
    (λ r c. option_map (λ live. rule live (live_neighbors t r c)) (cell t r c))
