-- An array of rows of slots, from which a grid takes its cells.
use Rattle.std.specs.Prelude.{◌≡◌, ℕ, ◌<◌, Bool, List, Option, None, Some, is_some, option_map}
use Rattle.std.specs.List.{list_all}
use Rattle.grid_base.specs.declared.order.Order.{Order}
use Rattle.grid_base.specs.declared.order.Order.TheVariants.{RowMajor, ColumnMajor}
use Rattle.grid_base.specs.Table.{cell}

-- what an order takes first and second: row and column, or column and row
abbrev pub by_order : Order → ℕ → ℕ → ℕ × ℕ
by_order RowMajor i j = (i, j)
by_order ColumnMajor i j = (j, i)

module _ {T : Type 0} where
  -- whether every slot holds a cell
  abbrev pub are_full : List (List (Option T)) → Bool
  are_full slots = list_all (λ row. list_all is_some row) slots

  -- no slot of m rows of n slots holds a cell
  abbrev pub AreEmpty : ℕ → ℕ → List (List (Option T)) → Type 0
  AreEmpty m n slots = (r c : ℕ) → r < m → c < n → cell slots r c ≡ Some None

  -- each slot of m rows of n slots holds the cell of the table
  abbrev pub HoldCells : ℕ → ℕ → List (List (Option T)) → List (List T) → Type 0
  HoldCells m n slots t = (r c : ℕ) → r < m → c < n → cell slots r c ≡ option_map Some (cell t r c)

  -- the cells of the table were taken out of m rows of n slots
  pub record AreTaken (m n : ℕ) (old new : List (List (Option T))) (t : List (List T)) : Type 0 where
    pub held : HoldCells m n old t
    pub emptied : AreEmpty m n new
