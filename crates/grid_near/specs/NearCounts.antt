-- How many of the cells around a cell pass a test.
use Rattle.std.specs.Prelude.{◌≡◌, ◌⊎◌, ℕ, suc, ◌+◌, Bool, true, false, List, [], ◌∷◌, map, count_by, sum_by}
use denote.Ref.{Bor}
use Rattle.grid_base.specs.ClosureCalls.{CallableAtRefs}

-- the closure f can be called at a reference to each of these cells
abbrev pub CallableNear : {F T : Type 0} → (F → Bor T → Type 0) → F → List ((ℕ × ℕ) × T) → Type 0
CallableNear takes f near = CallableAtRefs takes f (map (λ n. n.1) near)

-- the closure f may answer b at the cell x
abbrev pub MayAnswer : {F T B : Type 0} → (F → Bor T → B → Type 0) → F → T → B → Type 0
MayAnswer {T = T} returns f x b = (p : Bor T) × (p.now ≡ x) × returns f p b

module _ {F T : Type 0} (returns : F → Bor T → Bool → Type 0) (f : F) where
  -- an answer of f at each of these cells can be chosen so that `count` of them are true
  abbrev pub MayCount : List ((ℕ × ℕ) × T) → ℕ → Type 0
  MayCount [] count = count ≡ 0
  MayCount (n ∷ near) count = (MayAnswer returns f n.1 false × MayCount near count)
      ⊎ ((k : ℕ) × (count ≡ suc k) × MayAnswer returns f n.1 true × MayCount near k)

-- `count` is how many of these cells the closure f answers true at: where p says of each cell what
-- f may answer, `count` pass p; and an answer at each can be chosen so
pub record CountsNear {F T : Type 0} (returns : F → Bor T → Bool → Type 0) (f : F)
    (near : List ((ℕ × ℕ) × T)) (count : ℕ) : Type 0 where
  pub tested : (p : (ℕ × ℕ) × T → Bool)
      → ((at : ℕ × ℕ) (x : Bor T) (b : Bool) → returns f x b → p (at, x.now) ≡ b)
      → count ≡ count_by p near
  pub answers : MayCount returns f near count

module _ {F T : Type 0} (returns : F → Bor T → ℕ → Type 0) (f : F) where
  -- an answer of f at each of these cells can be chosen so that their sum is `sum`
  abbrev pub MaySum : List ((ℕ × ℕ) × T) → ℕ → Type 0
  MaySum [] sum = sum ≡ 0
  MaySum (n ∷ near) sum = (x : ℕ) × (rest : ℕ) × (sum ≡ x + rest) × MayAnswer returns f n.1 x
      × MaySum near rest

-- `sum` is the sum of what the closure f answers at these cells: where p says of each cell what f
-- may answer, that of p; and an answer at each can be chosen so
pub record SumsNear {F T : Type 0} (returns : F → Bor T → ℕ → Type 0) (f : F)
    (near : List ((ℕ × ℕ) × T)) (sum : ℕ) : Type 0 where
  pub tested : (p : (ℕ × ℕ) × T → ℕ)
      → ((at : ℕ × ℕ) (x : Bor T) (b : ℕ) → returns f x b → p (at, x.now) ≡ b) → sum ≡ sum_by p near
  pub answers : MaySum returns f near sum
