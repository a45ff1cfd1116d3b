-- Lists of the positions that steps lead to, and visits of them. No public clause cites this
-- module.
use Rattle.std.specs.Prelude.{◌≡◌, ◌<◌, ◌+◌, ◌^◌, ◌⊎◌, ◌↔◌, ℕ, List, [], ◌∷◌, Contains, Ok, IsErr}
use Rattle.std.specs.declared.alloc.AllocError.{AllocError}
use Rattle.std.specs.declared.result.Result.{Result}
use Rattle.grid_near.specs.declared.steps.Connectivity.{Connectivity}
use Rattle.grid_paths.specs.Walks.{IsStep}

-- of the positions that a grid can have, the list has exactly those that a step leads to
abbrev pub AreSteps : Connectivity → ℕ × ℕ → List (ℕ × ℕ) → Type 0
AreSteps connectivity at xs = (b : ℕ × ℕ) → b.0 + 1 < 2 ^ 64 → b.1 + 1 < 2 ^ 64
    → (Contains xs b ↔ IsStep connectivity at b)

-- what a call returns that may fail to allocate
abbrev pub Outcome : Type 0
Outcome = Result (Unit {0}) AllocError

-- the positions are visited in order, up to one whose visit fails
abbrev pub VisitsEach : {V : Type 0} → (ℕ × ℕ → Outcome → V → V → Type 0) → List (ℕ × ℕ) → Outcome
    → V → V → Type 0
VisitsEach visits [] r s s' = s ≡ s'
VisitsEach visits (at ∷ later) r s s' =
    ((t : _) × visits at (Ok tt) s t × VisitsEach visits later r t s')
    ⊎ ((failed : Outcome) × IsErr failed × IsErr r × visits at failed s s')
