-- Tables: lists of nonempty rows of one length.
use Rattle.std.specs.Prelude.{◌≡◌, ℕ, ◌<◌, Option, None, Some, List, [], length, map, slice_get, slice_index_or, slice_set, filter_map, flat_map}
use Rattle.std.specs.List.{range_with_len}

-- no rows exactly if no columns
pub record IsSize (m n : ℕ) : Type 0 where
  pub has_cols : 0 < m → 0 < n
  pub has_rows : 0 < n → 0 < m

module _ {T : Type 0} where
  -- row r of a table, or no cells past its end
  abbrev pub row : List (List T) → ℕ → List T
  row t r = slice_index_or t r []

  -- how many rows, and how many columns
  abbrev pub row_count : List (List T) → ℕ
  row_count t = length t

  abbrev pub col_count : List (List T) → ℕ
  col_count t = length (row t 0)

  -- the cell in row r and column c, or None where there is none
  abbrev pub cell : List (List T) → ℕ → ℕ → Option T
  cell t r c = slice_get (row t r) c

  -- there is a cell in row r and column c
  abbrev pub InRange : List (List T) → ℕ → ℕ → Type 0
  InRange t r c = (r < row_count t) × (c < col_count t)

  -- no row is empty, and all have one length
  pub record IsTable (t : List (List T)) : Type 0 where
    pub nonempty : (r : ℕ) → r < length t → 0 < length (row t r)
    pub even : (r : ℕ) → r < length t → length (row t r) ≡ length (row t 0)

  -- the cells f 0, .., f (n - 1)
  unfoldable pub cells_by : ℕ → (ℕ → Option T) → List T
  cells_by n f = filter_map f (range_with_len 0 n)

  -- the table of m rows and n columns with the cells f r c
  unfoldable pub tabulate : ℕ → ℕ → (ℕ → ℕ → Option T) → List (List T)
  tabulate m n f = map (λ r. cells_by n (f r)) (range_with_len 0 m)

  -- the transposed table: its rows are the columns
  abbrev pub transposed : List (List T) → List (List T)
  transposed t = tabulate (col_count t) (row_count t) (λ c r. cell t r c)

  -- the rows joined
  abbrev pub concat_rows : List (List T) → List T
  concat_rows t = flat_map (λ r. r) t

  -- a table with w in row r and column c; past its end nothing changes
  abbrev pub with_cell : List (List T) → ℕ → ℕ → T → List (List T)
  with_cell t r c w = slice_set t r (slice_set (row t r) c w)

  -- the same with a cell that may be missing
  abbrev pub with_cell_of : List (List T) → ℕ → ℕ → Option T → List (List T)
  with_cell_of t r c None = t
  with_cell_of t r c (Some w) = with_cell t r c w

  -- a table of which two cells have changed places
  abbrev pub exchanged : List (List T) → ℕ × ℕ → ℕ × ℕ → List (List T)
  exchanged t a b = with_cell_of (with_cell_of t a.0 a.1 (cell t b.0 b.1)) b.0 b.1 (cell t a.0 a.1)
