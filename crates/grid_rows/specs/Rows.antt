-- What a contract sees of a builder of rows.
use Rattle.std.specs.Prelude.{◌≡◌, ℕ, ◌*◌, ◌≤◌, Option, None, List, length, drop, unwrap_or}
use Rattle.std.specs.Simd.{first_chunks}

-- how many cells each row has to have, if that is known; the rows that were ended; the cells of the
-- open row
pub record RowsValue (T : Type 0) : Type 0 where
  pub cols : Option ℕ
  pub rows : List (List T)
  pub cells : List T

module _ {T : Type 0} where
  -- so many rows, and an open row that starts after them
  abbrev pub rows_value : Option ℕ → ℕ → ℕ → List T → RowsValue T
  rows_value cols count start cells = record {
    cols = cols;
    rows = first_chunks (unwrap_or cols 0) count cells;
    cells = drop start cells;
  }

  -- the open row starts after the cells of so many rows
  pub record Stands (cols : Option ℕ) (count start : ℕ) (cells : List T) : Type 0 where
    pub start_is : start ≡ count * unwrap_or cols 0
    pub within : start ≤ length cells
    pub none : cols ≡ None → count ≡ 0
