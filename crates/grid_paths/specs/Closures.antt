-- Tables of what a closure returns at the cells of a table.
use Rattle.std.specs.Prelude.{◌≡◌, ℕ, Some, List, IsSomeAnd, option_map}
use denote.Ref.{Bor}
use Rattle.grid_base.specs.Table.{row_count, col_count, cell, tabulate, IsTable, InRange}

-- what p gives at each cell of t
abbrev pub answers_by : {T R : Type 0} → (T → R) → List (List T) → List (List R)
answers_by p t = tabulate (row_count t) (col_count t) (λ r c. option_map p (cell t r c))

module _ {F T R : Type 0} (returns : F → Bor T → R → Type 0) (f : F) where
  -- p gives whatever the closure f may return
  abbrev pub IsAnswer : (T → R) → Type 0
  IsAnswer p = (x : Bor T) (y : R) → returns f x y → p x.now ≡ y

  module _ (t : List (List T)) where
    -- u has the size of t, and at each position something that f may return at the cell of t there
    pub record AreAnswers (u : List (List R)) : Type 0 where
      pub table : IsTable u
      pub rows : row_count u ≡ row_count t
      pub cols : col_count u ≡ col_count t
      pub answers : (r c : ℕ) → InRange t r c
          → IsSomeAnd (cell u r c) (λ y. (p : Bor T) × (cell t r c ≡ Some p.now) × returns f p y)

    -- P holds of such a table; and of that of any p which gives whatever f may return
    pub record HoldsOfAnswers (P : List (List R) → Type 0) : Type 0 where
      pub some : (u : List (List R)) × AreAnswers u × P u
      pub each : (p : T → R) → IsAnswer p → P (answers_by p t)
