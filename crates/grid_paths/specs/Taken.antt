-- What one step of a search does that marks the cells which it takes. No public clause cites this
-- module.
use Rattle.std.specs.Prelude.{◌≡◌, ◌≢◌, ℕ, ◌+◌, ◌≤◌, ◌⊎◌, Bool, Some, List, [], ◌∷◌, length, map, slice_get, sum_by}
use Rattle.grid_base.specs.GridValue.{SameSizeAndOrder}
use Rattle.grid_base.specs.Table.{cell, with_cell}
use Rattle.grid_paths.specs.declared.taken.Cells.{Cells}
use Rattle.grid_paths.specs.declared.taken.Taking.{Taking}
use Rattle.grid_paths.specs.Flood.{way_of}
use Rattle.grid_paths.specs.declared.taken.Enter.{Enter}
use Rattle.grid_paths.specs.declared.taken.Enter.TheVariants.{No, Stop, On}

module _ {T : Type 0} where
  -- the positions of some cells
  abbrev pub places : List ((ℕ × ℕ) × T) → List (ℕ × ℕ)
  places taken = map (λ x. x.0) taken

  -- a table with these cells put back, the last of them first
  abbrev pub undone : List ((ℕ × ℕ) × T) → List (List T) → List (List T)
  undone [] t = t
  undone (x ∷ taken) t = with_cell (undone taken t) (x.0).0 (x.0).1 x.1

-- u is t with w at some positions
pub record IsWritten {T : Type 0} (w : T) (near : ℕ × ℕ → Type 0) (t u : List (List T)) : Type 0
  where
    pub written : (a : ℕ × ℕ) → near a → cell u a.0 a.1 ≡ Some w
    pub kept : (a : ℕ × ℕ) → (near a → ⊥) → cell u a.0 a.1 ≡ cell t a.0 a.1

-- what counts as entered
abbrev pub flag : Enter → ℕ
flag No = 0
flag Stop = 1
flag On = 1

module _ {T : Type 0} (way : T → Enter) where
  -- a cell that may be taken
  abbrev pub IsLeft : List (List T) → ℕ × ℕ → T → Type 0
  IsLeft t at x = (cell t at.0 at.1 ≡ Some x) × (way x ≢ No)

  -- how many there are
  abbrev pub count_left : List (List T) → ℕ
  count_left t = sum_by (sum_by (λ x. flag (way x))) t

  module _ (mark : T) where
    -- each position was taken once, and is marked
    pub record AreMarked (t : List (List T)) (taken : List ((ℕ × ℕ) × T)) : Type 0 where
      pub marked : (j : ℕ) (x : (ℕ × ℕ) × T) → slice_get taken j ≡ Some x
          → cell t (x.0).0 (x.0).1 ≡ Some mark
      pub once : (i j : ℕ) (x y : (ℕ × ℕ) × T) → slice_get taken i ≡ Some x
          → slice_get taken j ≡ Some y → x.0 ≡ y.0 → i ≡ j

    -- some near cells that were left came to the end of those taken
    pub record TakesNear (near : ℕ × ℕ → Type 0) (t : List (List T)) (taken : List ((ℕ × ℕ) × T))
        (t' : List (List T)) (taken' : List ((ℕ × ℕ) × T)) : Type 0 where
      pub fewer : (a : ℕ × ℕ) (x : T) → IsLeft t' a x → IsLeft t a x
      pub all : (a : ℕ × ℕ) (x : T) → IsLeft t a x
          → IsLeft t' a x ⊎ ((j : ℕ) × (y : T) × (slice_get taken' j ≡ Some (a, y)))
      pub kept_at : (j : ℕ) (x : (ℕ × ℕ) × T) → slice_get taken j ≡ Some x
          → slice_get taken' j ≡ Some x
      pub fresh_at : (j : ℕ) (x : (ℕ × ℕ) × T) → slice_get taken' j ≡ Some x
          → (slice_get taken j ≡ Some x) ⊎ ((length taken ≤ j) × near x.0 × IsLeft t x.0 x.1)
      pub longer : length taken ≤ length taken'
      pub total : count_left t' + length taken' ≡ count_left t + length taken
      pub marked : AreMarked t taken → AreMarked t' taken'

    -- and no near one is left
    pub record TakesAll (near : ℕ × ℕ → Type 0) (t : List (List T)) (taken : List ((ℕ × ℕ) × T))
        (t' : List (List T)) (taken' : List ((ℕ × ℕ) × T)) : Type 0 where
      pub takes : TakesNear near t taken t' taken'
      pub around : (a : ℕ × ℕ) (x : T) → near a → IsLeft t' a x → ⊥

module _ {T : Type 0} (eq : T → T → Bool) where
  -- the search stays out of a cell
  abbrev pub IsPassed : Cells T → T → Type 0
  IsPassed cells x = way_of eq cells.on cells.stop x ≡ No

  -- it takes the near cells
  abbrev pub Takes : {A : Type 0} → Cells T → (ℕ × ℕ → Type 0) → Taking T A → Taking T A → Type 0
  Takes cells near s s' = TakesAll (way_of eq cells.on cells.stop) cells.mark near s.grid.now.rows
      s.taken.items s'.grid.now.rows s'.taken.items

-- what it took can be put back
pub record CanUndo {T A : Type 0} (s s' : Taking T A) : Type 0 where
  pub same_reference : s'.grid.ghost_name ≡ s.grid.ghost_name
  pub same : SameSizeAndOrder s.grid.now s'.grid.now
  pub saves : undone s'.taken.items s'.grid.now.rows ≡ undone s.taken.items s.grid.now.rows
