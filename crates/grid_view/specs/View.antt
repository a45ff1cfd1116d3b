-- A part of a stored table, seen through a symmetry: two axes over the cells.
use Rattle.std.specs.Prelude.{◌≡◌, ℕ, ◌+◌, ◌-◌, ◌*◌, ◌^◌, ◌<◌, Bool, true, false, Option, List, slice_get}
use Rattle.grid_base.specs.Lines.{counted}
use Rattle.grid_base.specs.Table.{IsSize, cell, tabulate}
use Rattle.grid_view.specs.declared.axis.ViewAxis.{ViewAxis}

-- how far line k of an axis is from the first cell
abbrev pub offset : ViewAxis → ℕ → ℕ
offset a k = counted a.backwards a.count k * a.stride

-- line k of an axis is k steps from the first, modulo 2 ^ 64
pub record IsStepped (a : ViewAxis) (first step : ℕ) : Type 0 where
  pub turns : ℕ
  pub at : (k : ℕ) → k < a.count → first + k * step ≡ offset a k + k * turns * 2 ^ 64

-- one of two flags, and not both
abbrev pub other : Bool → Bool → Bool
other true true = false
other true false = true
other false true = true
other false false = false

-- an axis whose lines come in the reversed order, or not, and one of fewer lines
abbrev pub turned : ViewAxis → Bool → ViewAxis
turned a reversed = record {
  count = a.count;
  stride = a.stride;
  backwards = other a.backwards reversed;
}

abbrev pub cut : ViewAxis → ℕ → ViewAxis
cut a count = record { count = count; stride = a.stride; backwards = a.backwards }

-- the first, as the storage has them, of the `count` lines from index `at` on of n
abbrev pub first_of : Bool → ℕ → ℕ → ℕ → ℕ
first_of true n at count = n - at - count
first_of false n at count = at

-- the axes of a view whose rows are the columns, or not
abbrev pub crossed : Bool → ViewAxis → ViewAxis → ViewAxis × ViewAxis
crossed true rows cols = (cols, rows)
crossed false rows cols = (rows, cols)

module _ {T : Type 0} (rows cols : ViewAxis) (cells : List T) where
  -- the cell in a row and a column
  abbrev pub seen_cell : ℕ → ℕ → Option T
  seen_cell r c = slice_get cells (offset rows r + offset cols c)

  -- the table that is seen
  abbrev pub seen : List (List T)
  seen = tabulate rows.count cols.count seen_cell

-- the cells of two axes are within a slice of `len` cells
pub record HoldsView (rows cols : ViewAxis) (len : ℕ) : Type 0 where
  pub size : IsSize rows.count cols.count
  pub below : rows.count * cols.count < 2 ^ 64
  pub within : (i j : ℕ) → i < rows.count → j < cols.count
      → i * rows.stride + j * cols.stride < len
  pub row_steps : 0 < rows.count → 0 < rows.stride
  pub col_steps : 0 < cols.count → 0 < cols.stride

-- the table of size.0 rows and size.1 columns of a table, from position `at` on
abbrev pub sub_table : {T : Type 0} → List (List T) → ℕ × ℕ → ℕ × ℕ → List (List T)
sub_table t at size = tabulate size.0 size.1 (λ r c. cell t (at.0 + r) (at.1 + c))
