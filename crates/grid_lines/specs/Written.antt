-- A row that is written from an iterator.
use Rattle.std.specs.Prelude.{◌≡◌, ◌⊎◌, ℕ, Bool, true, false, Option, MatchOption, List, ◌++◌, length, drop, slice_set}
use Rattle.std.specs.Iterator.Runs.{Run}
use Rattle.grid_base.specs.Table.{row, with_cell}

module _ {T : Type 0} where
  -- the table with xs over the first cells of row r; past its end nothing changes
  abbrev pub with_first_cells : List (List T) → ℕ → List T → List (List T)
  with_first_cells t r xs = slice_set t r (xs ++ drop (length xs) (row t r))

  -- the items of a run of an iterator, `count` of them, are over the first cells of row r; they are
  -- all that it gives, or as many as the row has cells
  abbrev pub WritesLine : {S : Type 0} {steps : S → Option T → S → Type 0}
      → List (List T) → ℕ → List (List T) → ℕ → Run steps → Type 0
  WritesLine t r new count p = (p.len ≡ count) × (new ≡ with_first_cells t r p.items)
      × ((p.whole ≡ true) ⊎ (count ≡ length (row t r)))

  -- a call of an iterator gave an item, which is in a cell now, or none, where no cell changes
  abbrev pub WritesNext : {S : Type 0} → (S → Type 0) → (S → Option T → S → Type 0) → S → S
      → ℕ × ℕ → List (List T) → List (List T) → Bool → Type 0
  WritesNext can steps s t at old new some = (o : Option T) × steps s o t
      × MatchOption o ((some ≡ false) × (new ≡ old))
      (λ x. (some ≡ true) × can t × (new ≡ with_cell old at.0 at.1 x))
