-- What an iterator from both ends has left of a list.
use Rattle.std.specs.Prelude.{ℕ, ◌-◌, ◌≤◌, List, take, drop}

-- the items from place `first` on and before place `past`
abbrev pub remaining : {X : Type 0} → ℕ → ℕ → List X → List X
remaining first past xs = take (past - first) (drop first xs)

-- these places are within a list of n items
pub record IsRemaining (first past n : ℕ) : Type 0 where
  pub ordered : first ≤ past
  pub within : past ≤ n
