-- Walks that go on from some cells, and end at others.
use Rattle.std.specs.Prelude.{◌≡◌, ◌≢◌, ℕ, zero, suc, Bool, cond, Option, None, Some, List, Contains, slice_get}
use Rattle.grid_base.specs.Table.{cell}
use Rattle.grid_near.specs.declared.steps.Connectivity.{Connectivity}
use Rattle.grid_paths.specs.declared.taken.Enter.{Enter}
use Rattle.grid_paths.specs.declared.taken.Enter.TheVariants.{No, Stop, On}
use Rattle.grid_paths.specs.Walks.{IsStep}

-- a position that is entered
abbrev pub IsEntered : List (List Enter) → ℕ × ℕ → Type 0
IsEntered ways at = (way : Enter) × (cell ways at.0 at.1 ≡ Some way) × (way ≢ No)

-- one that is gone on from
abbrev pub IsGoneOn : List (List Enter) → ℕ × ℕ → Type 0
IsGoneOn ways at = cell ways at.0 at.1 ≡ Some On

module _ (connectivity : Connectivity) (ways : List (List Enter)) where
  -- a walk of n steps from a to b: all positions are entered, and those before b gone on from
  abbrev pub EnterWalk : ℕ × ℕ → ℕ × ℕ → ℕ → Type 0
  EnterWalk a b zero = (a ≡ b) × IsEntered ways b
  EnterWalk a b (suc n) = (c : ℕ × ℕ) × EnterWalk a c n × IsGoneOn ways c × IsStep connectivity c b
      × IsEntered ways b

  -- the positions that such a walk from one of the starts leads to, each once
  pub record IsFlood (starts positions : List (ℕ × ℕ)) : Type 0 where
    pub walk : (a : ℕ × ℕ) → Contains positions a
        → (from : ℕ × ℕ) × (n : ℕ) × Contains starts from × EnterWalk from a n
    pub whole : (from a : ℕ × ℕ) (n : ℕ) → Contains starts from → EnterWalk from a n
        → Contains positions a
    pub once : (i j : ℕ) (a : ℕ × ℕ) → slice_get positions i ≡ Some a
        → slice_get positions j ≡ Some a → i ≡ j

-- what a search does at a cell y: it goes on from those equal to x, and stops at those equal to z
abbrev pub way_of : {T : Type 0} → (T → T → Bool) → T → Option T → T → Enter
way_of eq x None y = cond (eq y x) On No
way_of eq x (Some z) y = cond (eq y x) On (cond (eq y z) Stop No)
