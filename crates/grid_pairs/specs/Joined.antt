-- Two tables of one size, and the table of what a closure makes of each two cells.
use Rattle.std.specs.Prelude.{◌≡◌, ℕ, Option, None, Some, IsSomeAnd, List}
use Rattle.grid_base.specs.Table.{row_count, col_count, cell, InRange, tabulate}
use denote.Ref.{Bor}

-- the closure f can be called at references to the cells of two tables at each position
abbrev pub CallableAtPairs : {F A B : Type 0} → (F → Bor A → Bor B → Type 0) → F → List (List A)
    → List (List B) → Type 0
CallableAtPairs {A = A} {B} takes f t u = (r c : ℕ) (p : Bor A) (q : Bor B) → InRange t r c
    → cell t r c ≡ Some p.now → cell u r c ≡ Some q.now → takes f p q

-- h of two cells, where both are there
abbrev pub both : {A B C : Type 0} → (A → B → C) → Option A → Option B → Option C
both h (Some x) (Some y) = Some (h x y)
both h (Some x) None = None
both h None y = None

-- the table of h of each two cells of two tables of one size
abbrev pub joined : {A B C : Type 0} → (A → B → C) → List (List A) → List (List B) → List (List C)
joined h t u = tabulate (row_count t) (col_count t) (λ r c. both h (cell t r c) (cell u r c))

module _ {F A B C : Type 0} (returns : F → Bor A → Bor B → C → Type 0) (f : F) where
  -- z is something that the closure f may return at references to these cells, which are there
  abbrev pub Joins : Option A → Option B → C → Type 0
  Joins x y z = (p : Bor A) × (q : Bor B) × (x ≡ Some p.now) × (y ≡ Some q.now) × returns f p q z

  -- the closure f returns h of the two cells
  abbrev pub ReturnsAlways : (A → B → C) → Type 0
  ReturnsAlways h = (p : Bor A) (q : Bor B) (z : C) → returns f p q z → z ≡ h p.now q.now

  -- v is the table of what f returns at each two cells of t and u: where it returns h of them, that
  -- of h; and each cell is something that it may return
  pub record JoinedBy (t : List (List A)) (u : List (List B)) (v : List (List C)) : Type 0 where
    pub rows : row_count v ≡ row_count t
    pub cols : col_count v ≡ col_count t
    pub answers : (r c : ℕ) → InRange t r c
        → IsSomeAnd (cell v r c) (Joins (cell t r c) (cell u r c))
    pub tabulated : (h : A → B → C) → ReturnsAlways h → v ≡ joined h t u
