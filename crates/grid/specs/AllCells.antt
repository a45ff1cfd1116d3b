-- What a call on all cells leaves.
use Rattle.std.specs.Prelude.{◌≡◌, ℕ, Option, Some, IsSomeAnd, List, map}
use denote.Ref.{Bor}
use Rattle.grid_base.specs.Table.{row_count, col_count, cell, InRange, tabulate}

-- a table with every cell replaced by w
abbrev pub filled : {T : Type 0} → T → List (List T) → List (List T)
filled w t = map (λ row. map (λ _. w) row) t

-- the closure f can be called at each position of the table t and a reference to the cell there
abbrev pub CallableAtPositions : {F A : Type 0} → (F → ℕ × ℕ → Bor A → Type 0) → F → List (List A)
    → Type 0
CallableAtPositions {A = A} takes f t = (r c : ℕ) (p : Bor A) → InRange t r c
    → cell t r c ≡ Some p.now → takes f (r, c) p

-- the closure f can be called at this position of the table t and a reference to the cell there
abbrev pub ReachesThere : {F A : Type 0} → (F → ℕ × ℕ → Bor A → Type 0) → F → List (List A) → ℕ × ℕ
    → Type 0
ReachesThere {A = A} takes f t at = InRange t at.0 at.1
    × ((p : Bor A) → cell t at.0 at.1 ≡ Some p.now → takes f at p)

-- y is something that the closure f may return at this position of the table t and the cell there
abbrev pub ReturnsThere : {F A B : Type 0} → (F → ℕ × ℕ → Bor A → B → Type 0) → F → List (List A)
    → ℕ × ℕ → B → Type 0
ReturnsThere {A = A} returns f t at y = (p : Bor A) × (cell t at.0 at.1 ≡ Some p.now)
    × returns f at p y

module _ {F A B : Type 0} (returns : F → ℕ × ℕ → Bor A → B → Type 0) (f : F) (t : List (List A))
  where
    -- u is the table of what f returns at each position and the cell of t there: that of any h
    -- which gives whatever f may return; and each cell is something that it may
    pub record MappedBy (u : List (List B)) : Type 0 where
      pub tabulated : (h : ℕ → ℕ → Option B)
          → ((r c : ℕ) (p : Bor A) (y : B) → InRange t r c → cell t r c ≡ Some p.now
          → returns f (r, c) p y → h r c ≡ Some y) → u ≡ tabulate (row_count t) (col_count t) h
      pub answers : (r c : ℕ) → InRange t r c → IsSomeAnd (cell u r c)
          (λ y. (p : Bor A) × (cell t r c ≡ Some p.now) × returns f (r, c) p y)
