-- One value for each row of a table, folded from its cells.
use Rattle.std.specs.Prelude.{◌≡◌, ℕ, ◌<◌, ◌≤◌, Option, IsSomeAnd, List, Some, length, map, take, slice_get}
use Rattle.std.specs.List.{FoldsTo, fold}
use Rattle.grid_base.specs.Table.{row, row_count, cell, InRange}
use denote.Ref.{Bor}

module _ {F S A : Type 0} (returns : F → S → Bor A → S → Type 0) (f : F) where
  -- from the value s the closure f may go on to z at a reference to x
  abbrev pub FoldsOn : S → A → S → Type 0
  FoldsOn s x z = (p : Bor A) × (p.now ≡ x) × returns f s p z

  -- from s the closure f may come to z over these cells, one after another
  abbrev pub FoldsOver : S → List A → S → Type 0
  FoldsOver s cells z = FoldsTo FoldsOn s cells z

  -- the closure f goes on from s to h of s and the cell
  abbrev pub FoldsAlways : (S → A → S) → Type 0
  FoldsAlways h = (s : S) (p : Bor A) (z : S) → returns f s p z → z ≡ h s p.now

  -- zs are what f comes to over each row of t from `init` on: where it goes on to h of the value and the
  -- cell, the folds by h
  pub record AreFolds (init : S) (t : List (List A)) (zs : List S) : Type 0 where
    pub count : length zs ≡ row_count t
    pub each : (r : ℕ) → r < row_count t → IsSomeAnd (slice_get zs r) (FoldsOver init (row t r))
    pub pure : (h : S → A → S) → FoldsAlways h → zs ≡ map (fold h init) t

  -- from s the closure f may come to z over the cells of these rows, row by row
  abbrev pub FoldsOverRows : S → List (List A) → S → Type 0
  FoldsOverRows s t z = FoldsTo FoldsOver s t z

  -- z is what f comes to over the cells of t, row by row: where it goes on to h of the value and the
  -- cell, the fold by h
  pub record IsFold (init : S) (t : List (List A)) (z : S) : Type 0 where
    pub over : FoldsOverRows init t z
    pub pure : (h : S → A → S) → FoldsAlways h → z ≡ fold (fold h) init t

  -- z is what f goes on to from this value at this cell, which are there
  abbrev pub GoesOn : Option S → Option A → S → Type 0
  GoesOn s x z = (y : S) × (p : Bor A) × (s ≡ Some y) × (x ≡ Some p.now) × returns f y p z

  -- zs are what f comes to over m lines
  pub record AreFoldsOf (init : S) (m : ℕ) (line : ℕ → List A) (zs : List S) : Type 0 where
    pub count : length zs ≡ m
    pub each : (r : ℕ) → r < m → IsSomeAnd (slice_get zs r) (FoldsOver init (line r))

  -- each value is what f goes on to from the old one at the item of a list that comes there
  pub record FoldsMore (cells : List A) (old new : List S) : Type 0 where
    pub len : length new ≡ length old
    pub each : (k : ℕ) → k < length old
        → IsSomeAnd (slice_get new k) (GoesOn (slice_get old k) (slice_get cells k))

  -- the same of the first n values, and the others are as they were
  pub record FoldsMoreOf (n : ℕ) (cells : List A) (old new : List S) : Type 0 where
    pub len : length new ≡ length old
    pub each : (k : ℕ) → k < n
        → IsSomeAnd (slice_get new k) (GoesOn (slice_get old k) (slice_get cells k))
    pub others : (k : ℕ) → n ≤ k → slice_get new k ≡ slice_get old k

-- zs are n copies of z
pub record AreCopies {S : Type 0} (z : S) (n : ℕ) (zs : List S) : Type 0 where
  pub count : length zs ≡ n
  pub each : (k : ℕ) → k < n → slice_get zs k ≡ Some z

-- the closure f can be called at each cell of a row, and a value that it comes to over those before it
pub record CallableInRow {F S A : Type 0} (takes : F → S → Bor A → Type 0)
    (returns : F → S → Bor A → S → Type 0) (f : F) (init : S) (cells : List A) : Type 0 where
  pub at : (c : ℕ) (s : S) (p : Bor A) → slice_get cells c ≡ Some p.now
      → FoldsOver returns f init (take c cells) s → takes f s p

-- the closure f can be called at each value, and the item of a list that comes there
pub record CallableAtCol {F S A : Type 0} (takes : F → S → Bor A → Type 0) (f : F) (folds : List S)
    (cells : List A) : Type 0 where
  pub at : (k : ℕ) (s : S) (p : Bor A) → slice_get folds k ≡ Some s → slice_get cells k ≡ Some p.now
      → takes f s p

-- the closure f can be called at each cell of each row of t, and a value that it comes to over the cells
-- before it
abbrev pub CallableInRows : {F S A : Type 0} → (F → S → Bor A → Type 0)
    → (F → S → Bor A → S → Type 0) → F → S → List (List A) → Type 0
CallableInRows {S = S} {A} takes returns f init t = (r c : ℕ) (s : S) (p : Bor A)
    → InRange t r c → cell t r c ≡ Some p.now → FoldsOver returns f init (take c (row t r)) s
    → takes f s p

-- the closure f can be called at each cell of t, and a value that it comes to over the cells before it,
-- row by row
abbrev pub CallableInCells : {F S A : Type 0} → (F → S → Bor A → Type 0)
    → (F → S → Bor A → S → Type 0) → F → S → List (List A) → Type 0
CallableInCells {S = S} {A} takes returns f init t = (r c : ℕ) (s z : S) (p : Bor A)
    → cell t r c ≡ Some p.now → FoldsOverRows returns f init (take r t) s
    → FoldsOver returns f s (take c (row t r)) z → takes f z p
