-- The positions of a table's cells, in storage order.
use Rattle.std.specs.Prelude.{◌≡◌, ◌⊎◌, ℕ, ◌*◌, ◌^◌, ◌<◌, ◌≤◌, List, Some}
use Rattle.grid_base.specs.declared.order.Order.{Order}
use Rattle.grid_base.specs.declared.order.Order.TheVariants.{RowMajor, ColumnMajor}
use Rattle.grid_base.specs.Table.{IsSize, tabulate}
use Rattle.grid_base.specs.Order.{storage, place}

-- the row and the column of each cell of m rows and n columns, in storage order
unfoldable pub positions : Order → ℕ → ℕ → List (ℕ × ℕ)
positions o m n = storage o (tabulate m n (λ r c. Some (r, c)))

-- an iterator over m rows and n columns comes to cell (r, c) next, or has come to the end
pub record StandsAt (o : Order) (m n r c : ℕ) : Type 0 where
  pub below : m * n < 2 ^ 64
  pub size : IsSize m n
  pub rows : r ≤ m
  pub cols : c ≤ n
  pub next : (r < m × c < n) ⊎ (place o m n r c ≡ m * n)

-- of m rows and n columns, the number of lines along the storage and their length; of a line along
-- the storage and a place in it, the row and the column
abbrev pub along : Order → ℕ → ℕ → ℕ × ℕ
along RowMajor a b = (a, b)
along ColumnMajor a b = (b, a)
