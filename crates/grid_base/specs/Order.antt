-- The two orders in which a table is stored.
use Rattle.std.specs.Prelude.{◌≡◌, ◌≢◌, ◌⊎◌, ℕ, ◌+◌, ◌*◌, ◌%◌, List, slice_get}
use Rattle.grid_base.specs.declared.order.Order.{Order}
use Rattle.grid_base.specs.declared.order.Order.TheVariants.{RowMajor, ColumnMajor}
use Rattle.grid_base.specs.Table.{concat_rows, transposed, tabulate}

-- the other order
abbrev pub flipped : Order → Order
flipped RowMajor = ColumnMajor
flipped ColumnMajor = RowMajor

-- the cells of a table in storage order: its rows joined, or its columns joined
abbrev pub storage : {T : Type 0} → Order → List (List T) → List T
storage RowMajor t = concat_rows t
storage ColumnMajor t = concat_rows (transposed t)

-- where the storage of a table of m rows and n columns has cell (r, c)
abbrev pub place : Order → ℕ → ℕ → ℕ → ℕ → ℕ
place RowMajor m n r c = r * n + c
place ColumnMajor m n r c = c * m + r

-- the table of m rows and n columns whose storage is cells
abbrev pub table_of : {T : Type 0} → Order → ℕ → ℕ → List T → List (List T)
table_of o m n cells = tabulate m n (λ r c. slice_get cells (place o m n r c))

-- `len` cells can be cut into lines of one length: there are none, or the length divides their
-- number
abbrev pub CanCut : ℕ → ℕ → Type 0
CanCut len width = (len ≡ 0) ⊎ ((width ≢ 0) × (len % width ≡ 0))
