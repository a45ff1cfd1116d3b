-- What waits in the heap, after a push and after a pop.
use Rattle.std.proofs.Common.{◌≡◌, ℕ, ◌<◌, ◌≤◌, ◌⊎◌, false, List, [], ◌∷◌, Contains, refl, sym, ◌∙◌, ap, subst, arith, inl, inr, ⊎_elim, IsPermutation, Some, is_lt, map}
use Rattle.grid_paths.proofs.Common.{IsUpperBound, ordering_then, Contains-permutation, IsPermutation-sym, ge_from_not_lt, Entry, by_sum, entry_of, IsWaiting, IsFirst, Reading}
use Rattle.std.specs.Ordering.{nat_cmp}
use Rattle.std.specs.declared.cmp.Reverse.{Reverse}
use Rattle.std.specs.declared.cmp.Ordering.{Ordering}
use Rattle.std.specs.declared.cmp.Ordering.TheVariants.{Less, Equal, Greater}
use Rattle.grid_paths.proofs.AroundLemmas.{Contains-cases}
use Rattle.grid_paths.proofs.NearLemmas.{Contains-more}

-- a heap, and the same with x
module _ (x : Entry) (heap heap' : List Entry) (p : IsPermutation (x ∷ heap) heap') where
  pub here : IsWaiting heap' x.0.0 x.0.1
  here = (x, Contains-permutation (x ∷ heap) heap' x p (0, omega arith, refl), refl, refl)

  pub kept : (s : ℕ) (a : ℕ × ℕ) → IsWaiting heap s a → IsWaiting heap' s a
  kept s a w = (w.0, Contains-permutation (x ∷ heap) heap' w.0 p (Contains-more (Some x) heap w.0 w.1), w.2, w.3)

  pub added : (s : ℕ) (a : ℕ × ℕ) → IsWaiting heap' s a → ((x.0.0 ≡ s) × (x.0.1 ≡ a)) ⊎ IsWaiting heap s a
  added s a w =
      ⊎_elim (λ e. inl (ap (λ y. y.0.0) e ∙ w.2, ap (λ y. y.0.1) e ∙ w.3)) (λ c. inr (w.0, c, w.2, w.3))
      (Contains-cases x w.0 heap (Contains-permutation heap' (x ∷ heap) w.0 (IsPermutation-sym (x ∷ heap) heap' p) w.1))

first_not_less : (a b : Ordering) → is_lt (ordering_then a b) ≡ false → is_lt a ≡ false
first_not_less Less b e = e
first_not_less Equal b e = refl
first_not_less Greater b e = e

-- what is among the images of a list's elements is the image of one of them
Contains-mapped : {X Y : Type 0} (f : X → Y) (xs : List X) (y : Y) → Contains (map f xs) y → (x : X) × Contains xs x × (f x ≡ y)
Contains-mapped f [] y c = absurd (let lt : c.0 < 0 = c.1 in omega arith)
Contains-mapped f (z ∷ zs) y c =
    ⊎_elim (λ e. (z, (0, omega arith, refl), e))
    (λ later. let v = Contains-mapped f zs y later in (v.0, Contains-more (Some z) zs v.0 v.1, v.2))
    (Contains-cases (f z) y (map f zs) c)

-- numbers of any width
module _ {N : Type 0} (cmp : N → N → Ordering) (w : Reading N) (ordered : (x y : N) → cmp x y ≡ nat_cmp (w.value x) (w.value y)) where
  bound : (x : Reverse (N × N)) (heap : List (Reverse (N × N))) → IsUpperBound (by_sum cmp) x heap → (y : Reverse (N × N)) → Contains heap y → w.value x.0.0 ≤ w.value y.0.0
  bound x [] h y c = absurd (let lt : c.0 < 0 = c.1 in omega arith)
  bound x (z ∷ zs) h y c =
      ⊎_elim (λ e.
      subst (λ v. w.value x.0.0 ≤ w.value v.0.0) e
      (ge_from_not_lt (w.value z.0.0) (w.value x.0.0) (sym (ap is_lt (ordered z.0.0 x.0.0)) ∙ first_not_less (cmp z.0.0 x.0.0) (cmp z.0.1 x.0.1) h.0)))
      (λ later. bound x zs h.1 y later)
      (Contains-cases z y zs c)

  -- what comes first has the least sum
  pub least_first : (x : Reverse (N × N)) (heap : List (Reverse (N × N))) → IsUpperBound (by_sum cmp) x heap → IsFirst (entry_of w x) (map (entry_of w) heap)
  least_first x heap h s a c =
      let v = Contains-mapped (entry_of w) heap c.0 c.1 in
      let le : w.value x.0.0 ≤ w.value v.0.0.0 = bound x heap h v.0 v.1 in
      let is : w.value v.0.0.0 ≡ s = ap (λ y. y.0.0) v.2 ∙ c.2 in
      omega arith
