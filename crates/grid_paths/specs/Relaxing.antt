-- What one step of the search for the least costs does. No public clause cites this module.
use Rattle.std.specs.Prelude.{◌≡◌, ℕ, ◌+◌, ◌*◌, ◌^◌, ◌<◌, ◌≤◌, ◌⊎◌, Option, List, Contains}
use Rattle.std.specs.declared.cmp.Reverse.{Reverse}
use Rattle.grid_near.specs.declared.steps.Connectivity.{Connectivity}
use Rattle.grid_paths.specs.Search.{unreached}
use Rattle.grid_paths.specs.Walks.{IsStep}
use Rattle.grid_paths.specs.Cheapest.{Holds, CostWalk}

-- what waits in the heap: a sum and a position
abbrev pub Entry : Type 0
Entry = Reverse (ℕ × (ℕ × ℕ))

-- the position a waits in the heap with the sum s
abbrev pub IsWaiting : List Entry → ℕ → ℕ × ℕ → Type 0
IsWaiting heap s a = (w : Entry) × Contains heap w × (w.0.0 ≡ s) × (w.0.1 ≡ a)

-- no position waits with a lesser sum than x
abbrev pub IsFirst : Entry → List Entry → Type 0
IsFirst x heap = (s : ℕ) (a : ℕ × ℕ) → IsWaiting heap s a → x.0.0 ≤ s

-- the sum at a is at most m
abbrev pub HoldsUpTo : List (List (Option ℕ)) → ℕ × ℕ → ℕ → Type 0
HoldsUpTo u a m = (k : ℕ) × Holds u a k × (k ≤ m)

-- there is no sum at a
abbrev pub IsClosed : List (List (Option ℕ)) → ℕ × ℕ → Type 0
IsClosed t a = (k : ℕ) → Holds t a k → ⊥

-- a near position that was left got the sum m, from another, and waits with it
pub record IsEntered (near : ℕ × ℕ → Type 0) (left : List (List (Option ℕ))) (sum : ℕ)
    (heap : List Entry)
    (a : ℕ × ℕ) (m : ℕ) : Type 0 where
  pub is_near : near a
  pub cost : ℕ
  pub is_left : Holds left a cost
  pub is : m ≡ sum + cost
  pub few : cost < 2 ^ 32
  pub waits : IsWaiting heap m a

-- the near positions that are left have a sum no greater than the sum and their cost
pub record Relaxes (near : ℕ × ℕ → Type 0) (left : List (List (Option ℕ))) (sum : ℕ)
    (u : List (List (Option ℕ)))
    (heap : List Entry) (u' : List (List (Option ℕ))) (heap' : List Entry) : Type 0 where
  pub lower : (a : ℕ × ℕ) (m : ℕ) → Holds u a m → HoldsUpTo u' a m
  pub fresh : (a : ℕ × ℕ) (m : ℕ) → Holds u' a m → Holds u a m ⊎ IsEntered near left sum heap' a m
  pub kept : (s : ℕ) (a : ℕ × ℕ) → IsWaiting heap s a → IsWaiting heap' s a
  pub added : (s : ℕ) (a : ℕ × ℕ) → IsWaiting heap' s a
      → IsWaiting heap s a ⊎ (HoldsUpTo u' a s × (sum ≤ s))
  pub around : (b : ℕ × ℕ) (k : ℕ) → near b → Holds left b k → HoldsUpTo u' b (sum + k)

-- the first position, or one whose sum comes from that of a settled one
abbrev pub Comes : Connectivity → List (List (Option ℕ)) → ℕ × ℕ → List (List (Option ℕ))
    → List (List (Option ℕ)) → ℕ × ℕ → ℕ → Type 0
Comes connectivity costs from u left a m =
    ((a ≡ from) × (m ≡ 0))
    ⊎ ((c : ℕ × ℕ) × (s : ℕ) × (k : ℕ) × Holds u c s × IsClosed left c × IsStep connectivity c a
    × Holds costs a k × (m ≡ s + k))

-- the search has found these sums; those of the positions that aren't left are settled
pub record IsCostSearch (connectivity : Connectivity) (costs : List (List (Option ℕ)))
    (from : ℕ × ℕ)
    (u left : List (List (Option ℕ)))
    (heap : List Entry) : Type 0 where
  pub among : (a : ℕ × ℕ) (k : ℕ) → Holds left a k → Holds costs a k
  pub all : (a : ℕ × ℕ) (k : ℕ) → Holds costs a k
      → Holds left a k ⊎ ((m : ℕ) × Holds u a m × IsClosed left a)
  pub sound : (a : ℕ × ℕ) (m : ℕ) → Holds u a m → (n : ℕ) × CostWalk connectivity costs from a n m
  pub comes : (a : ℕ × ℕ) (m : ℕ) → Holds u a m → Comes connectivity costs from u left a m
  pub waits : (a : ℕ × ℕ) (k m : ℕ) → Holds left a k → Holds u a m → IsWaiting heap m a
  pub numbered : (s : ℕ) (a : ℕ × ℕ) → IsWaiting heap s a → HoldsUpTo u a s
  pub ordered : (a : ℕ × ℕ) (m s : ℕ) (b : ℕ × ℕ) → Holds u a m → IsClosed left a
      → IsWaiting heap s b → m ≤ s
  pub relaxed : (a : ℕ × ℕ) (m : ℕ) (b : ℕ × ℕ) (k : ℕ) → Holds u a m → IsClosed left a
      → IsStep connectivity a b
      → Holds costs b k → HoldsUpTo u b (m + k)
  pub start : (k : ℕ) → Holds costs from k → HoldsUpTo u from 0
  pub bound : (a : ℕ × ℕ) (m : ℕ) → Holds u a m → m ≤ 2 ^ 32 * unreached left
