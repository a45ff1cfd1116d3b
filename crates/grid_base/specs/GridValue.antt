-- What a contract sees of a grid.
use Rattle.std.specs.Prelude.{◌≡◌, ℕ, ◌+◌, ◌*◌, ◌^◌, ◌<◌, ◌≤◌, List}
use Rattle.grid_base.specs.declared.order.Order.{Order}
use Rattle.grid_base.specs.Table.{IsSize, IsTable, row_count, col_count}

-- a `usize` counts m rows, n columns and their cells, and a row and a column together
pub record FitsUsize (m n : ℕ) : Type 0 where
  pub rows : m < 2 ^ 64
  pub cols : n < 2 ^ 64
  pub cells : m * n < 2 ^ 64
  pub sides : m + n ≤ 2 ^ 64

-- a table of rows, the order in which it is stored, that it is a table, and that its size fits
pub record GridValue (T : Type 0) : Type 0 where
  pub rows : List (List T)
  pub order : Order
  pub table : IsTable rows
  pub fits : FitsUsize (row_count rows) (col_count rows)

-- a grid of the size and the order of another
pub record SameSizeAndOrder {T U : Type 0} (old : GridValue T) (new : GridValue U) : Type 0 where
  pub rows : row_count new.rows ≡ row_count old.rows
  pub cols : col_count new.rows ≡ col_count old.rows
  pub order : new.order ≡ old.order

-- `len` cells fill m rows and n columns, and a vector can hold them
pub record HoldsSize (m n len : ℕ) : Type 0 where
  pub cells : len ≡ m * n
  pub below : m * n < 2 ^ 64
  pub size : IsSize m n
