-- Which cells are seen from a cell, along the straight line between the two.
use Rattle.std.specs.Prelude.{◌≡◌, ℕ, ◌<◌, ◌≤◌, Bool, IsTrue, true, false, Option, None, Some, List, MatchBool, slice_get}
use denote.Ref.{Bor}
use Rattle.grid_base.specs.Table.{cell, InRange}
use Rattle.grid.specs.Prelude.{AnswersAt}
use Rattle.grid_rays.specs.Segments.{steps_between, segment}

-- `at` is on the straight line from a to b, strictly between the two
pub record IsBetween (a b at : ℕ × ℕ) : Type 0 where
  pub steps : ℕ
  pub after : 0 < steps
  pub before : steps < steps_between a b
  pub there : slice_get (segment a b) steps ≡ Some at

-- the table t has both positions, and P holds of each that is strictly between
pub record IsSeen {T : Type 0} (P : ℕ × ℕ → Type 0) (t : List (List T)) (a b : ℕ × ℕ) : Type 0 where
  pub from_in : InRange t a.0 a.1
  pub to_in : InRange t b.0 b.1
  pub clear : (at : ℕ × ℕ) → IsBetween a b at → P at

-- the cell at a position passes the test p
pub record Passes {T : Type 0} (p : T → Bool) (t : List (List T)) (at : ℕ × ℕ) : Type 0 where
  pub found : T
  pub there : cell t at.0 at.1 ≡ Some found
  pub passes : IsTrue (p found)

-- from a to b each cell strictly between passes the test p
abbrev pub Sees : {T : Type 0} → (T → Bool) → List (List T) → ℕ × ℕ → ℕ × ℕ → Type 0
Sees p t a b = IsSeen (Passes p t) t a b

-- p says what the closure f may answer at a cell
abbrev pub IsTest : {F T : Type 0} → (F → Bor T → Bool → Type 0) → F → (T → Bool) → Type 0
IsTest {T = T} returns f p = (x : Bor T) (y : Bool) → returns f x y → p x.now ≡ y

module _ {F T : Type 0} (returns : F → Bor T → Bool → Type 0) (f : F) (t : List (List T)) where
  -- where both positions are in range, f answers false at one strictly between
  pub record IsHidden (a b : ℕ × ℕ) : Type 0 where
    pub by : InRange t a.0 a.1 → InRange t b.0 b.1
        → (at : ℕ × ℕ) × IsBetween a b at × AnswersAt returns f t at false

  -- f answers true at each position strictly between, or false at one
  abbrev pub TellsSeen : ℕ × ℕ → ℕ × ℕ → Bool → Type 0
  TellsSeen a b seen =
      MatchBool seen (IsSeen (λ at. AnswersAt returns f t at true) t a b) (IsHidden a b)

-- a position is at most so many steps from another, if there is a limit
abbrev pub IsNearby : Option ℕ → ℕ × ℕ → ℕ × ℕ → Type 0
IsNearby None a b = Unit {0}
IsNearby (Some radius) a b = steps_between a b ≤ radius

module _ {F T : Type 0} (returns : F → Bor T → Bool → Type 0) (f : F) (t : List (List T))
    (radius : Option ℕ) (a : ℕ × ℕ)
  where
    -- what a field of view says of a position: it is near enough and seen; or, if it is near
    -- enough, it is hidden
    abbrev pub TellsInView : ℕ × ℕ → Bool → Type 0
    TellsInView b seen =
        MatchBool seen
        (IsNearby radius a b × IsSeen (λ at. AnswersAt returns f t at true) t a b)
        (IsNearby radius a b → IsHidden returns f t a b)
