-- Connected regions of equal cells, numbered.
use Rattle.std.specs.Prelude.{◌≡◌, ℕ, ◌<◌, ◌⊎◌, Bool, Some, List}
use Rattle.grid_base.specs.Table.{cell}
use Rattle.grid_near.specs.declared.steps.Connectivity.{Connectivity}
use Rattle.grid_paths.specs.Walks.{Walk, alike}

-- a walk over cells equal to that at a leads from a to b
abbrev pub AreJoined : {T : Type 0} → Connectivity → (T → T → Bool) → List (List T) → ℕ × ℕ → ℕ × ℕ
    → Type 0
AreJoined {T = T} connectivity eq t a b = (x : T) × (n : ℕ) × (cell t a.0 a.1 ≡ Some x)
    × Walk connectivity (alike eq x t) a b n

-- two positions have one label exactly if they are joined
pub record AreRegions {T : Type 0} (connectivity : Connectivity) (eq : T → T → Bool)
    (t : List (List T))
    (u : List (List ℕ)) : Type 0 where
  pub one : (a b : ℕ × ℕ) (k : ℕ) → cell u a.0 a.1 ≡ Some k → cell u b.0 b.1 ≡ Some k
      → AreJoined connectivity eq t a b
  pub whole : (a b : ℕ × ℕ) (k : ℕ) → cell u a.0 a.1 ≡ Some k → AreJoined connectivity eq t a b
      → cell u b.0 b.1 ≡ Some k

-- position a comes before b, row by row
abbrev pub ComesBefore : ℕ × ℕ → ℕ × ℕ → Type 0
ComesBefore a b = (a.0 < b.0) ⊎ ((a.0 ≡ b.0) × (a.1 < b.1))

-- the labels are exactly the numbers below the count, and come in the order of their first cells,
-- row by row
pub record AreNumbers (u : List (List ℕ)) (count : ℕ) : Type 0 where
  pub below : (a : ℕ × ℕ) (k : ℕ) → cell u a.0 a.1 ≡ Some k → k < count
  pub used : (k : ℕ) → k < count → (a : ℕ × ℕ) × (cell u a.0 a.1 ≡ Some k)
  pub ordered : (a : ℕ × ℕ) (k j : ℕ) → cell u a.0 a.1 ≡ Some k → j < k
      → (b : ℕ × ℕ) × ComesBefore b a × (cell u b.0 b.1 ≡ Some j)
