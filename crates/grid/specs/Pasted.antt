-- A table over which another is laid, and a part of a table that is written.
use Rattle.std.specs.Prelude.{◌≡◌, ℕ, ℤ, pos, negsuc, ◌+◌, ◌-◌, ◌<◌, ◌≤◌, ◌⊎◌, ◌&&◌, Bool, Option, None, Some, List, IsTrue, nat_lt, nat_le, if◌then◌else◌}
use Rattle.grid_base.specs.Prelude.{row_count, col_count, cell, InRange, tabulate, GridValue}
use Rattle.std.specs.Option.{option_or}
use denote.Ref.{Bor}

-- index i counted from a signed index on; None before it
abbrev pub counted_from : ℤ → ℕ → Option ℕ
counted_from (pos a) i = if nat_lt i a then None else Some (i - a)
counted_from (negsuc a) i = Some (i + (a + 1))

-- position (i, j) is one of the size.0 rows and size.1 columns from position `at` on
abbrev pub in_part : ℕ × ℕ → ℕ × ℕ → ℕ → ℕ → Bool
in_part at size i j =
    (nat_le at.0 i && nat_lt i (at.0 + size.0)) && (nat_le at.1 j && nat_lt j (at.1 + size.1))

module _ {T : Type 0} where
  -- the cell in a row and a column, either of which may be missing
  abbrev pub cell_of : List (List T) → Option ℕ → Option ℕ → Option T
  cell_of u (Some r) (Some c) = cell u r c
  cell_of u (Some r) None = None
  cell_of u None c = None

  -- a table with u over it, whose first cell is at a signed row and column: each cell is that of u
  -- where u covers it, else the old one
  abbrev pub overlaid : ℤ × ℤ → List (List T) → List (List T) → List (List T)
  overlaid at u t = tabulate (row_count t) (col_count t)
      (λ i j. option_or (cell_of u (counted_from at.0 i) (counted_from at.1 j)) (cell t i j))

  -- a table with w in each cell of a part
  abbrev pub part_filled : ℕ × ℕ → ℕ × ℕ → T → List (List T) → List (List T)
  part_filled at size w t = tabulate (row_count t) (col_count t)
      (λ i j. if in_part at size i j then Some w else cell t i j)

-- a position is in the rows from a on and before b, and in the columns from c on and before d
pub record IsWithin (a b c d i j : ℕ) : Type 0 where
  pub row_from : a ≤ i
  pub row_before : i < b
  pub col_from : c ≤ j
  pub col_before : j < d

module _ {F A : Type 0} (f : F) (at size : ℕ × ℕ) (t : List (List A)) where
  -- the closure f can be called at each position of a part and a reference to the cell there
  abbrev pub CallableInPart : (F → ℕ × ℕ → Bor A → Type 0) → Type 0
  CallableInPart takes = (r c : ℕ) (p : Bor A) → IsTrue (in_part at size r c) → InRange t r c
      → cell t r c ≡ Some p.now → takes f (r, c) p

  -- where h gives whatever f may return at each position of the part and the cell there, u is the
  -- table with what h gives in the part
  abbrev pub PartUpdated : (F → ℕ × ℕ → Bor A → A → Type 0) → List (List A) → Type 0
  PartUpdated returns u = (h : ℕ → ℕ → Option A)
      → ((r c : ℕ) (p : Bor A) (y : A) → IsTrue (in_part at size r c) → InRange t r c
      → cell t r c ≡ Some p.now → returns f (r, c) p y → h r c ≡ Some y)
      → u ≡ tabulate (row_count t) (col_count t)
      (λ i j. if in_part at size i j then h i j else cell t i j)

-- the same at the columns of a row from one on and before another
abbrev pub CallableInRow : {F A : Type 0} → F → (r from end : ℕ) → List (List A)
    → (F → ℕ × ℕ → Bor A → Type 0) → Type 0
CallableInRow {A = A} f r from end t takes = (c : ℕ) (p : Bor A) → from ≤ c → c < end
    → cell t r c ≡ Some p.now → takes f (r, c) p

-- what a closure returned at a position and the cell there is the new cell
pub record CellUpdated {A : Type 0} (returns : ℕ × ℕ → Bor A → A → Type 0) (old new : List (List A))
    (r c : ℕ) : Type 0 where
  pub p : Bor A
  pub y : A
  pub was : cell old r c ≡ Some p.now
  pub gave : returns (r, c) p y
  pub is : cell new r c ≡ Some y

-- of a grid each cell where P says is updated, and no other
pub record CellsUpdated {A : Type 0} (P : ℕ → ℕ → Type 0) (returns : ℕ × ℕ → Bor A → A → Type 0)
    (old new : GridValue A) : Type 0 where
  pub order : new.order ≡ old.order
  pub rows : row_count new.rows ≡ row_count old.rows
  pub cols : col_count new.rows ≡ col_count old.rows
  pub updated : (i j : ℕ) → P i j → CellUpdated returns old.rows new.rows i j
  pub others : (i j : ℕ) → (P i j → ⊥) → cell new.rows i j ≡ cell old.rows i j

-- a line of `len` cells that begins at a signed index, clipped to the indices below `limit`: its
-- `count` cells from cell `skipped` on are at the indices from `start` on
pub record IsClipped (at : ℤ) (len limit skipped start count : ℕ) : Type 0 where
  pub of_line : skipped + count ≤ len
  pub within : start + count ≤ limit
  pub covered : (i : ℕ) → i < count → counted_from at (start + i) ≡ Some (skipped + i)
  pub others : (i k : ℕ) → i < limit → (i < start) ⊎ (start + count ≤ i) → counted_from at i ≡ Some k
      → len ≤ k
