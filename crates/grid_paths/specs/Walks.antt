-- Walks over the open cells of a table: a step goes to a cell that shares a side, or to any that
-- touches.
use Rattle.std.specs.Prelude.{◌≡◌, ℕ, zero, suc, ◌+◌, ◌-◌, ◌≤◌, ◌⊎◌, Bool, true, Option, Some, List, length, Contains, slice_get}
use Rattle.grid_base.specs.Table.{cell}
use Rattle.grid_near.specs.declared.steps.Connectivity.{Connectivity}
use Rattle.grid_near.specs.declared.steps.Connectivity.TheVariants.{Four, Eight}
use Rattle.grid_paths.specs.Closures.{answers_by}

-- two indices differ by one
abbrev pub DifferByOne : ℕ → ℕ → Type 0
DifferByOne m n = (m + 1 ≡ n) ⊎ (n + 1 ≡ m)

-- two positions share a side
abbrev pub AreBeside : ℕ × ℕ → ℕ × ℕ → Type 0
AreBeside a b = ((a.0 ≡ b.0) × DifferByOne a.1 b.1) ⊎ ((a.1 ≡ b.1) × DifferByOne a.0 b.0)

-- two positions share a corner and no side
abbrev pub AreDiagonal : ℕ × ℕ → ℕ × ℕ → Type 0
AreDiagonal a b = DifferByOne a.0 b.0 × DifferByOne a.1 b.1

-- a step leads from one position to the other
abbrev pub IsStep : Connectivity → ℕ × ℕ → ℕ × ℕ → Type 0
IsStep Four a b = AreBeside a b
IsStep Eight a b = AreBeside a b ⊎ AreDiagonal a b

-- an open position of the table
abbrev pub IsOpen : List (List Bool) → ℕ × ℕ → Type 0
IsOpen mask at = cell mask at.0 at.1 ≡ Some true

module _ (connectivity : Connectivity) (mask : List (List Bool)) where
  -- a walk of n steps from a to b over open positions
  abbrev pub Walk : ℕ × ℕ → ℕ × ℕ → ℕ → Type 0
  Walk a b zero = (a ≡ b) × IsOpen mask b
  Walk a b (suc n) = (c : ℕ × ℕ) × Walk a c n × IsStep connectivity c b × IsOpen mask b

  -- there is a walk of k steps, and none of fewer
  pub record IsLeastSteps (a b : ℕ × ℕ) (k : ℕ) : Type 0 where
    pub walk : Walk a b k
    pub least : (n : ℕ) → Walk a b n → k ≤ n

  -- u has a step count at each position that a walk leads to, the least; it has None at the others
  pub record HasLeastSteps (from : ℕ × ℕ) (u : List (List (Option ℕ))) : Type 0 where
    pub found : (at : ℕ × ℕ) (n : ℕ) → Walk from at n → (k : ℕ) × (cell u at.0 at.1 ≡ Some (Some k))
    pub least : (at : ℕ × ℕ) (k : ℕ) → cell u at.0 at.1 ≡ Some (Some k) → IsLeastSteps from at k

  -- a walk of n steps from one of several positions
  abbrev pub WalkFrom : List (ℕ × ℕ) → ℕ × ℕ → ℕ → Type 0
  WalkFrom starts at n = (from : ℕ × ℕ) × Contains starts from × Walk from at n

  -- there is such a walk of k steps, and none of fewer
  pub record IsLeastFrom (starts : List (ℕ × ℕ)) (at : ℕ × ℕ) (k : ℕ) : Type 0 where
    pub walk : WalkFrom starts at k
    pub least : (n : ℕ) → WalkFrom starts at n → k ≤ n

  -- u has a step count at each position that a walk from one of them leads to, the least from any
  -- of them; it has None at the others
  pub record HasLeastFrom (starts : List (ℕ × ℕ)) (u : List (List (Option ℕ))) : Type 0 where
    pub found : (at : ℕ × ℕ) (n : ℕ) → WalkFrom starts at n
        → (k : ℕ) × (cell u at.0 at.1 ≡ Some (Some k))
    pub least : (at : ℕ × ℕ) (k : ℕ) → cell u at.0 at.1 ≡ Some (Some k) → IsLeastFrom starts at k

-- which cells of a table pass the test p
abbrev pub passing : {T : Type 0} → (T → Bool) → List (List T) → List (List Bool)
passing p t = answers_by p t

-- a list of positions from one to another: each is open, and a step leads to it from the one before
pub record IsPath (connectivity : Connectivity) (mask : List (List Bool)) (from to : ℕ × ℕ)
    (path : List (ℕ × ℕ))
    : Type 0 where
  pub first : slice_get path 0 ≡ Some from
  pub last : slice_get path (length path - 1) ≡ Some to
  pub all_open : (j : ℕ) (a : ℕ × ℕ) → slice_get path j ≡ Some a → IsOpen mask a
  pub each_step : (j : ℕ) (a b : ℕ × ℕ) → slice_get path j ≡ Some a
      → slice_get path (j + 1) ≡ Some b
      → IsStep connectivity a b

-- and none is shorter
pub record IsShortestPath (connectivity : Connectivity) (mask : List (List Bool)) (from to : ℕ × ℕ)
    (path : List (ℕ × ℕ)) : Type 0
  where
    pub leads : IsPath connectivity mask from to path
    pub shortest : (other : List (ℕ × ℕ)) → IsPath connectivity mask from to other
        → length path ≤ length other

-- which cells equal x
abbrev pub alike : {T : Type 0} → (T → T → Bool) → T → List (List T) → List (List Bool)
alike eq x t = passing (λ y. eq y x) t

-- u is t with w at each position that a walk from `at` leads to
pub record IsFilled {T : Type 0} (connectivity : Connectivity) (mask : List (List Bool))
    (at : ℕ × ℕ) (w : T)
    (t u : List (List T)) : Type 0
  where
    pub filled : (b : ℕ × ℕ) (n : ℕ) → Walk connectivity mask at b n → cell u b.0 b.1 ≡ Some w
    pub kept : (b : ℕ × ℕ) → ((n : ℕ) → Walk connectivity mask at b n → ⊥)
        → cell u b.0 b.1 ≡ cell t b.0 b.1
