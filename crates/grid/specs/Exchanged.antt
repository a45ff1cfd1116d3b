-- Parts of a grid that take the cells of another. Only contracts of private calls cite this module.
use Rattle.std.specs.Prelude.{◌≡◌, ◌⊎◌, ℕ, ◌+◌, ◌<◌, List, slice_get}
use Rattle.grid_base.specs.Prelude.{row_count, col_count, cell, GridValue}
use Rattle.grid_base.specs.declared.order.Order.TheVariants.{RowMajor}
use Rattle.grid_view.specs.Value.{ViewValue}

-- a position is among the first n of row r; is in the first m rows and n columns
abbrev pub InRow : (r n i j : ℕ) → Type 0
InRow r n i j = (i ≡ r) × (j < n)

abbrev pub InRows : (m n i j : ℕ) → Type 0
InRows m n i j = (i < m) × (j < n)

module _ {T : Type 0} where
  -- of two grids, the one from position `at` on has the cells of the other where P says; the sizes
  -- and orders stay, and all cells elsewhere
  pub record PartTaken (P : ℕ → ℕ → Type 0) (at : ℕ × ℕ) (to from new left : GridValue T) : Type 0
    where
      pub order : new.order ≡ to.order
      pub rows : row_count new.rows ≡ row_count to.rows
      pub cols : col_count new.rows ≡ col_count to.rows
      pub left_order : left.order ≡ from.order
      pub left_rows : row_count left.rows ≡ row_count from.rows
      pub left_cols : col_count left.rows ≡ col_count from.rows
      pub taken : (i j : ℕ) → P i j → cell new.rows (at.0 + i) (at.1 + j) ≡ cell from.rows i j
      pub others : (i j : ℕ) → (P i j → ⊥)
          → cell new.rows (at.0 + i) (at.1 + j) ≡ cell to.rows (at.0 + i) (at.1 + j)
      pub before : (i j : ℕ) → (i < at.0) ⊎ (j < at.1) → cell new.rows i j ≡ cell to.rows i j
      pub left_others : (i j : ℕ) → (P i j → ⊥) → cell left.rows i j ≡ cell from.rows i j

  -- what `PartTaken` says of row r of each grid whose first n cells there are those of the list from
  -- place p on
  abbrev pub RowTaken : (r p n : ℕ) (cells : List T) (at : ℕ × ℕ) (to new : GridValue T) → Type 0
  RowTaken r p n cells at to new = (from : GridValue T)
      → ((x : ℕ) → x < n → slice_get cells (p + x) ≡ cell from.rows r x)
      → PartTaken (InRow r n) at to from new from

-- a row-major grid of the rows that a view shows
abbrev pub held : {T : Type 0} → ViewValue T → GridValue T
held v = record { rows = v.rows; order = RowMajor; table = v.table; fits = v.fits }
