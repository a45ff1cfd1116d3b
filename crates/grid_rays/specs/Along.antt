-- What is found along a ray: the first cell that passes a test, cells alike, and rows of them.
use Rattle.std.specs.Prelude.{◌≡◌, ℕ, ◌+◌, ◌<◌, ◌≤◌, Bool, IsTrue, true, false, Option, Some, List, MatchOption}
use denote.Ref.{Bor}
use Rattle.grid_base.specs.Table.{cell, InRange}
use Rattle.grid_near.specs.declared.direction.Direction.{Direction}
use Rattle.grid.specs.Prelude.{AnswersAt}
use Rattle.grid_rays.specs.Rays.{IsAhead}

module _ {F T : Type 0} (returns : F → Bor T → Bool → Type 0) (f : F) (t : List (List T))
    (way : Direction) (at : ℕ × ℕ)
  where
    -- the closure f answers false at the cells that are fewer than `count` steps away
    abbrev pub NoneWithin : ℕ → Type 0
    NoneWithin count = (k : ℕ) (to : ℕ × ℕ) → 0 < k → k < count → IsAhead way k at to
        → InRange t to.0 to.1
        → AnswersAt returns f t to false

    -- `to` is the first position that way at whose cell f answers true
    pub record IsFirstAlong (to : ℕ × ℕ) : Type 0 where
      pub from_in : InRange t at.0 at.1
      pub steps : ℕ
      pub some : 0 < steps
      pub ahead : IsAhead way steps at to
      pub in_range : InRange t to.0 to.1
      pub yes : AnswersAt returns f t to true
      pub before : NoneWithin steps

    -- it was found; or f answers false at each cell that way, of which there is none if `at` is out
    -- of range
    abbrev pub FoundAlong : Option (ℕ × ℕ) → Type 0
    FoundAlong found =
        MatchOption found (InRange t at.0 at.1 → (count : ℕ) → NoneWithin count) IsFirstAlong

module _ {T : Type 0} (eq : T → T → Bool) (t : List (List T)) (at : ℕ × ℕ) where
  -- the cell at a position equals the one at `at`
  pub record IsAlike (to : ℕ × ℕ) : Type 0 where
    pub here : T
    pub there : T
    pub at_here : cell t at.0 at.1 ≡ Some here
    pub at_there : cell t to.0 to.1 ≡ Some there
    pub equal : IsTrue (eq there here)

  -- the cells next to each other that way equal the one at `at`, `count` of them, and no more
  pub record AreAlikeAlong (way : Direction) (count : ℕ) : Type 0 where
    pub each : (k : ℕ) → 0 < k → k ≤ count → (to : ℕ × ℕ) × IsAhead way k at to × IsAlike to
    pub ends : (to : ℕ × ℕ) → IsAhead way (count + 1) at to → IsAlike to → ⊥

  -- the same of those that are counted up to `most`: if there are so many, more may be alike
  pub record AreAlikeUpTo (most : ℕ) (way : Direction) (count : ℕ) : Type 0 where
    pub each : (k : ℕ) → 0 < k → k ≤ count → (to : ℕ × ℕ) × IsAhead way k at to × IsAlike to
    pub few : count ≤ most
    pub ends : count < most → (to : ℕ × ℕ) → IsAhead way (count + 1) at to → IsAlike to → ⊥

  -- n positions in a row, from `start` on, of which `at` is number i, and the cell at each other
  -- equals the one at `at`
  pub record IsRun (way : Direction) (start : ℕ × ℕ) (n i : ℕ) : Type 0 where
    pub within : i < n
    pub here : IsAhead way i start at
    pub in_range : InRange t at.0 at.1
    pub others : (k : ℕ) → k < n → (k ≡ i → ⊥) → (to : ℕ × ℕ) × IsAhead way k start to × IsAlike to

  -- there is such a row in a direction, or in any
  abbrev pub HasRunAlong : Direction → ℕ → Type 0
  HasRunAlong way n = (start : ℕ × ℕ) × (i : ℕ) × IsRun way start n i

  abbrev pub HasRun : ℕ → Type 0
  HasRun n = (way : Direction) × HasRunAlong way n
