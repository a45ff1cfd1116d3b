-- Where a table stands in another.
use Rattle.std.specs.Prelude.{◌≡◌, ◌⊎◌, ℕ, ◌+◌, ◌<◌, ◌≤◌, Bool, IsTrue, Option, MatchOption, List}
use lib.Pointwise.{pointwise}
use Rattle.grid_base.specs.Table.{row_count, col_count}
use Rattle.grid_view.specs.View.{sub_table}

module _ {T : Type 0} (same : T → T → Bool) (t p : List (List T)) where
  -- the part of t from position (r, c) on is p, cell by cell
  pub record StandsIn (r c : ℕ) : Type 0 where
    pub rows : r + row_count p ≤ row_count t
    pub cols : c + col_count p ≤ col_count t
    pub cells : IsTrue (pointwise (pointwise same) (sub_table t (r, c) (row_count p, col_count p)) p)

  -- p stands there in t, and nowhere before it, row by row
  pub record StandsFirst (at : ℕ × ℕ) : Type 0 where
    pub stands : StandsIn at.0 at.1
    pub before : (r c : ℕ) → StandsIn r c → (at.0 < r) ⊎ ((at.0 ≡ r) × (at.1 ≤ c))

  -- the first position where p stands in t, or None where it stands nowhere
  abbrev pub FoundFirst : Option (ℕ × ℕ) → Type 0
  FoundFirst found = MatchOption found ((r c : ℕ) → StandsIn r c → ⊥) StandsFirst

  -- the same of a row: the column
  pub record StandsFirstIn (r c : ℕ) : Type 0 where
    pub stands : StandsIn r c
    pub before : (k : ℕ) → StandsIn r k → c ≤ k
