-- What a board of falling pieces counts.
use Rattle.std.specs.Prelude.{◌==◌, ℕ, List, map, count_by}

-- how many rows have no cell that is 0
abbrev pub full_rows : List (List ℕ) → ℕ
full_rows t = count_by (λ empty. empty == 0) (map (λ row. count_by (λ x. x == 0) row) t)
