-- Lines in the order by which a closure compares two of them, or in that of the keys that it gives.
use Rattle.std.specs.Prelude.{◌≡◌, ℕ, Bool, List, IsSortedBy}
use Rattle.std.specs.Cmp.{IsStrictWeakOrder}
use Rattle.std.specs.Fn.{Mut, AlwaysReturns}
use Rattle.std.specs.List.Sorted.{IsStableBy, IsNonDecreasingBy, IsSortedByKey, IsStableByKey}
use Rattle.std.specs.Ordering.{is_lt, nat_cmp}
use Rattle.std.specs.declared.cmp.Ordering.{Ordering}

module _ {F T : Type 0} (g : Mut F (List T × (List T × Unit {0})) Ordering) where
  -- each call from f on, at two lines, answers `Less` just where lt holds of them
  abbrev pub ComparesLinesAs : (List T → List T → Bool) → F → Type 0
  ComparesLinesAs lt = AlwaysReturns g (λ a r. is_lt r ≡ lt a.0 a.1.0)

  -- no line is less than the one before it, by the order that f answers by, where it answers by one
  abbrev pub AreSortedLines : F → List (List T) → Type 0
  AreSortedLines f lines = (lt : List T → List T → Bool) → IsStrictWeakOrder lt
      → ComparesLinesAs lt f → IsSortedBy lt lines

  -- lines that tie by that order are in new in the order they had in old
  abbrev pub AreStableLines : F → List (List T) → List (List T) → Type 0
  AreStableLines f old new = (lt : List T → List T → Bool) → IsStrictWeakOrder lt
      → ComparesLinesAs lt f → IsStableBy lt old new

module _ {F T K : Type 0} (g : Mut F (List T × Unit {0}) K) where
  -- each call from f on, at a line, answers its key
  abbrev pub GivesLineKey : (List T → K) → F → Type 0
  GivesLineKey key = AlwaysReturns g (λ a r. r ≡ key a.0)

  -- no line's key is less than that of the line before it, where f gives a function's values
  abbrev pub AreSortedByKey : (K → K → Ordering) → F → List (List T) → Type 0
  AreSortedByKey cmp f lines = (key : List T → K) → GivesLineKey key f → IsSortedByKey key cmp lines

  -- lines whose keys tie are in new in the order they had in old
  abbrev pub AreStableByKey : (K → K → Ordering) → F → List (List T) → List (List T) → Type 0
  AreStableByKey cmp f old new = (key : List T → K) → GivesLineKey key f
      → IsStableByKey key cmp old new

-- a call of the closure f compares a number of the one line with that of the other, and leaves f as
-- it was
abbrev pub ComparesNumbers : {F T : Type 0} → (F → List T → List T → Ordering → F → Type 0) → F
    → (List T → ℕ) → Type 0
ComparesNumbers {F} {T} step f n = (a b : List T) (r : Ordering) (g : F) → step f a b r g
    → (r ≡ nat_cmp (n a) (n b)) × (g ≡ f)

-- whatever its state, the closure compares a number of the one line with that of the other
abbrev pub AlwaysComparesNumbers : {F T : Type 0} → (F → List T → List T → Ordering → F → Type 0)
    → (List T → ℕ) → Type 0
AlwaysComparesNumbers {F} {T} step n = (f : F) (a b : List T) (r : Ordering) (g : F)
    → step f a b r g
    → r ≡ nat_cmp (n a) (n b)

-- the number does not fall from line to line
pub record AscendBy {T : Type 0} (n : List T → ℕ) (lines : List (List T)) : Type 0 where
  pub at : IsNonDecreasingBy n lines

-- no key is less than the one before it
pub record AscendByKey {T K : Type 0} (cmp : K → K → Ordering) (key : List T → K)
    (lines : List (List T)) : Type 0 where
  pub at : IsSortedByKey key cmp lines
