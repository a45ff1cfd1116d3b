-- A list that has n different numbers has at least n items, and so n items that come from later places take n swaps.
use Rattle.std.proofs.Common.{◌≡◌, ◌≢◌, ℕ, zero, suc, ◌<◌, ◌≤◌, cond, eqb, List, [], ◌∷◌, length, sym, ◌∙◌, ap, subst, arith, inl, inr, ⊎_elim, eq-eqb, ne_eqb, slice_get}
use Rattle.grid_laws.proofs.Common.{cases_eq, cond-true, cond-false, Makes}
use Rattle.grid_laws.proofs.OriginLemmas.{In, origin, origin_within, made, length-lowered, in_lowered}

-- the list without its first a
erase : ℕ → List ℕ → List ℕ
erase a [] = []
erase a (x ∷ xs) = cond (eqb a x) xs (x ∷ erase a xs)

erase_first : (a x : ℕ) (xs : List ℕ) → a ≡ x → erase a (x ∷ xs) ≡ xs
unfolding erase
erase_first a x xs e = cond-true (eqb a x) xs (x ∷ erase a xs) (eq-eqb a x e)

erase_later : (a x : ℕ) (xs : List ℕ) → a ≢ x → erase a (x ∷ xs) ≡ x ∷ erase a xs
unfolding erase
erase_later a x xs ne = cond-false (eqb a x) xs (x ∷ erase a xs) (ne_eqb a x ne)

length-erase : (a : ℕ) (xs : List ℕ) → In a xs → suc (length (erase a xs)) ≡ length xs
length-erase a [] h = absurd h
length-erase a (x ∷ xs) h =
    ⊎_elim (λ e. ap (λ l. suc (length l)) (erase_first a x xs e))
    (λ ne.
    ap (λ l. suc (length l)) (erase_later a x xs ne)
    ∙ ⊎_elim (λ e. absurd (ne e)) (λ rest. ap suc (length-erase a xs rest)) h)
    (cases_eq a x)

In-erase : (a b : ℕ) (xs : List ℕ) → In b xs → b ≢ a → In b (erase a xs)
In-erase a b [] h ne = absurd h
In-erase a b (x ∷ xs) h ne =
    ⊎_elim (λ e. subst (In b) (sym (erase_first a x xs e)) (⊎_elim (λ f. absurd (ne (f ∙ sym e))) (λ rest. rest) h))
    (λ nf.
    subst (In b) (sym (erase_later a x xs nf))
    (⊎_elim (λ f. inl f) (λ rest. inr (In-erase a b xs rest ne)) h))
    (cases_eq a x)

-- f names n different numbers
pub record AreDifferent (n : ℕ) (f : ℕ → ℕ) : Type 0 where
  pub different : (x y : ℕ) → x < n → y < n → f x ≡ f y → x ≡ y

pub at_least_so_many : (n : ℕ) (f : ℕ → ℕ) (xs : List ℕ) → AreDifferent n f → ((x : ℕ) → x < n → In (f x) xs) → n ≤ length xs
at_least_so_many zero f xs d h = omega arith
at_least_so_many (suc n) f xs d h =
    let one = length-erase (f n) xs (h n (omega arith)) in
    let rest = at_least_so_many n f (erase (f n) xs) (record { different = λ x y p q. d.different x y (omega arith) (omega arith) })
    (λ x lt. In-erase (f n) (f x) xs (h x (omega arith)) (λ e. let same = d.different x n (omega arith) (omega arith) e in omega arith)) in
    omega arith

-- the item at place i is like no other of the list
abbrev pub IsAlone : {T : Type 0} → List T → ℕ → Type 0
IsAlone xs i = (j : ℕ) → j < length xs → slice_get xs j ≡ slice_get xs i → j ≡ i

-- n items that come from later places, and are like no other, take n swaps
pub at_least : {T : Type 0} (xs ys : List T) (ps : List (ℕ × ℕ)) (n : ℕ) (f g : ℕ → ℕ) → ((x : ℕ) → x < n → IsAlone xs (g x)) → Makes ps xs ys → AreDifferent n f → ((x : ℕ) → x < n → f x < g x) → ((x : ℕ) → x < n → g x < length xs) → ((x : ℕ) → x < n → f x < length ys) → ((x : ℕ) → x < n → slice_get ys (f x) ≡ slice_get xs (g x)) → n ≤ length ps
at_least xs ys ps n f g alone m u later inside there from =
    omega (
      arith,
      length-lowered ps,
      at_least_so_many n f _ u
          (λ x lt.
          let before = later x lt in
          let low = inside x lt in
          let is : origin ps (f x) ≡ g x = alone x lt (origin ps (f x)) (origin_within (length xs) ps (f x) m.within (omega arith))
          (made ps xs ys m (f x) (there x lt) ∙ from x lt) in
          in_lowered ps (f x) (omega arith)),
    )
