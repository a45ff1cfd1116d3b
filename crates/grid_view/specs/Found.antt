-- The positions of cells at which a closure answers true.
use Rattle.std.specs.Prelude.{◌≡◌, ◌<◌, ◌⊎◌, ℕ, Bool, true, false, Option, Some, List, length, slice_index_or, MatchOption}
use denote.Ref.{Bor}
use Rattle.grid_base.specs.Table.{cell, InRange}

-- a position comes before another, row by row
abbrev pub Precedes : ℕ × ℕ → ℕ × ℕ → Type 0
Precedes a b = (a.0 < b.0) ⊎ ((a.0 ≡ b.0) × (a.1 < b.1))

-- position `at` is in a list
abbrev pub IsAmong : List (ℕ × ℕ) → ℕ × ℕ → Type 0
IsAmong found at = (k : ℕ) × (k < length found) × (at ≡ slice_index_or found k at)

-- the closure f can be called at a reference to each cell of the table t
abbrev pub CallableAtCells : {F T : Type 0} → (F → Bor T → Type 0) → F → List (List T) → Type 0
CallableAtCells {T = T} takes f t = (r c : ℕ) (p : Bor T) → InRange t r c → cell t r c ≡ Some p.now
    → takes f p

module _ {F T : Type 0} (returns : F → Bor T → Bool → Type 0) (f : F) (t : List (List T)) where
  -- f may answer b at the cell of a position
  abbrev pub AnswersAt : ℕ × ℕ → Bool → Type 0
  AnswersAt at b = (p : Bor T) × (cell t at.0 at.1 ≡ Some p.now) × returns f p b

  -- `at` is the first position, row by row, at whose cell f answers true
  pub record IsFirst (at : ℕ × ℕ) : Type 0 where
    pub in_range : InRange t at.0 at.1
    pub yes : AnswersAt at true
    pub before : (r c : ℕ) → InRange t r c → Precedes (r, c) at → AnswersAt (r, c) false

  -- it was found, or f answers false at each cell
  abbrev pub FoundFirst : Option (ℕ × ℕ) → Type 0
  FoundFirst found = MatchOption found ((r c : ℕ) → InRange t r c → AnswersAt (r, c) false) IsFirst

  -- these are the positions, row by row, at whose cells f answers true
  pub record FoundAll (found : List (ℕ × ℕ)) : Type 0 where
    pub in_range : (k : ℕ) (at : ℕ × ℕ) → k < length found → at ≡ slice_index_or found k at
        → InRange t at.0 at.1
    pub in_order : (i j : ℕ) (a b : ℕ × ℕ) → i < j → j < length found
        → a ≡ slice_index_or found i a → b ≡ slice_index_or found j b → Precedes a b
    pub each : (r c : ℕ) → InRange t r c → (IsAmong found (r, c) × AnswersAt (r, c) true)
        ⊎ ((IsAmong found (r, c) → ⊥) × AnswersAt (r, c) false)
