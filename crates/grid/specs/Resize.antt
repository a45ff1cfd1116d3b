-- A grid that is brought to another size.
use Rattle.std.specs.Prelude.{◌≡◌, ℕ, ◌<◌, Option, Some, List, unwrap_or}
use Rattle.grid_base.specs.Table.{row_count, col_count, cell, InRange, tabulate}
use Rattle.grid.specs.Make.{HasSize, IsOnlyDefault}

module _ {T : Type 0} where
  -- the cell in row r and column c of a table, or d where there is none
  abbrev pub cell_or : T → List (List T) → ℕ → ℕ → Option T
  cell_or d t r c = Some (unwrap_or (cell t r c) d)

  -- the first m rows and n columns of a table
  pub record IsCorner (m n : ℕ) (old new : List (List T)) : Type 0 where
    pub rows : row_count new ≡ m
    pub cols : col_count new ≡ n
    pub cells : (r c : ℕ) → r < m → c < n → cell new r c ≡ cell old r c

  -- a table of m rows and n columns: the cells that both have are the same, and each other one is a
  -- default
  pub record IsResized (is_default : T → Type 0) (m n : ℕ) (old new : List (List T)) : Type 0 where
    pub size : HasSize m n new
    pub kept : (r c : ℕ) → InRange old r c → InRange new r c → cell new r c ≡ cell old r c
    pub fresh : (r c : ℕ) → InRange new r c → (InRange old r c → ⊥)
        → (x : T) × (cell new r c ≡ Some x) × is_default x

  -- where a table becomes one of m rows and n columns; and what it is where the type has one default
  pub record ResizesTo (is_default : T → Type 0) (m n : ℕ) (old new : List (List T)) : Type 0 where
    pub cells : IsResized is_default m n old new
    pub one_default : (d : T) → IsOnlyDefault is_default d → 0 < n
        → new ≡ tabulate m n (cell_or d old)
    pub rows : 0 < n → row_count new ≡ m
    pub cols : 0 < m → col_count new ≡ n
