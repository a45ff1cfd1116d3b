-- How many cells stay at an edit and change their place in the storage.
use Rattle.std.specs.Prelude.{ℕ, ◌+◌, ◌-◌, ◌*◌, nat_eq, nat_lt, if◌then◌else◌}
use Rattle.grid_base.specs.declared.order.Order.{Order}
use Rattle.grid_base.specs.declared.order.Order.TheVariants.{RowMajor, ColumnMajor}

-- m rows of n cells each, of which k more come before row i: along the storage's lines, and across
-- them
abbrev pub rows_added_shift : Order → ℕ → ℕ → ℕ → ℕ → ℕ
rows_added_shift RowMajor m n i k = if nat_eq k 0 then 0 else (m - i) * n
rows_added_shift ColumnMajor m n i k = if nat_eq k 0 then 0 else n * m - i

-- rows go, count of them from start on, along the lines and across them
abbrev pub rows_taken_shift : Order → ℕ → ℕ → ℕ → ℕ → ℕ
rows_taken_shift RowMajor m n start count = (m - start - count) * n
rows_taken_shift ColumnMajor m n start count = n * (m - count) - start

-- the same where there may be no such rows, or none to take
abbrev pub delete_rows_shift : Order → ℕ → ℕ → ℕ → ℕ → ℕ
delete_rows_shift o m n start count =
    if nat_eq count 0 then 0 else (if nat_lt m (start + count) then 0
    else rows_taken_shift o m n start count)
