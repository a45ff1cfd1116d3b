-- The list of the eight positions around one.
use Rattle.std.proofs.Common.{◌≡◌, ℕ, zero, suc, ◌+◌, ◌-◌, ◌%◌, ◌^◌, ◌<◌, ◌⊎◌, ◌↔◌, List, [], ◌∷◌, Contains, length, Some, ◌≤◌, refl, sym, ◌∙◌, ap, subst, arith, inl, inr, ⊎_elim, slice_get}
use Rattle.grid_paths.proofs.Common.{cases_lt, Contains-get_or, slice_get_within, slice_get_read, get_or_from_slice_get, IsAt, DifferByOne, AreBeside, AreDiagonal, AreSteps}
use Rattle.grid_near.specs.declared.steps.Connectivity.TheVariants.{Four, Eight}

pub same_pair : {X : Type 0} (a b : X × X) → a.0 ≡ b.0 → a.1 ≡ b.1 → a ≡ b
same_pair a b p q = λ i. (p i, q i)

pub Contains-cases : {X : Type 0} (x z : X) (xs : List X) → Contains (x ∷ xs) z → (x ≡ z) ⊎ Contains xs z
Contains-cases x z xs (zero, l, e) = inl e
Contains-cases x z xs (suc k, l, e) = inr (k, omega arith, e)

pub Contains-first : {X : Type 0} (x z : X) (xs : List X) → x ≡ z → Contains (x ∷ xs) z
Contains-first x z xs e = (0, omega arith, e)

pub Contains-later : {X : Type 0} (x z : X) (xs : List X) → Contains xs z → Contains (x ∷ xs) z
Contains-later x z xs c = let lt = c.1 in (suc c.0, omega (arith, lt), c.2)

pub none_in : {X : Type 0} (z : X) → Contains [] z → ⊥
none_in z c = omega (arith, c.1)

pub contains_next : {X : Type 0} (x : X) (xs : List X) (z : X) → ((x ≡ z) ⊎ Contains xs z) ↔ Contains (x ∷ xs) z
contains_next x xs z = (λ h. ⊎_elim (λ e. Contains-first x z xs e) (λ c. Contains-later x z xs c) h, λ c. Contains-cases x z xs c)

-- what is in four
module _ {X : Type 0} (x1 x2 x3 x4 z : X) (xs : List X) where
  abbrev pub IsOneOfFour : Type 0
  IsOneOfFour = ((x1 ≡ z) ⊎ (x2 ≡ z)) ⊎ ((x3 ≡ z) ⊎ (x4 ≡ z))

  pub four_of : Contains (x1 ∷ x2 ∷ x3 ∷ x4 ∷ xs) z → IsOneOfFour ⊎ Contains xs z
  four_of c =
      ⊎_elim (λ e. inl (inl (inl e)))
      (λ c1. ⊎_elim (λ e. inl (inl (inr e)))
      (λ c2. ⊎_elim (λ e. inl (inr (inl e)))
      (λ c3. ⊎_elim (λ e. inl (inr (inr e))) (λ c4. inr c4) (Contains-cases x4 z xs c3))
      (Contains-cases x3 z (x4 ∷ xs) c2))
      (Contains-cases x2 z (x3 ∷ x4 ∷ xs) c1))
      (Contains-cases x1 z (x2 ∷ x3 ∷ x4 ∷ xs) c)

  pub later_four : Contains xs z → Contains (x1 ∷ x2 ∷ x3 ∷ x4 ∷ xs) z
  later_four c =
      Contains-later x1 z (x2 ∷ x3 ∷ x4 ∷ xs) (Contains-later x2 z (x3 ∷ x4 ∷ xs) (Contains-later x3 z (x4 ∷ xs) (Contains-later x4 z xs c)))

  pub of_four : IsOneOfFour → Contains (x1 ∷ x2 ∷ x3 ∷ x4 ∷ xs) z
  of_four h =
      let a1 : Contains (x2 ∷ x3 ∷ x4 ∷ xs) z → Contains (x1 ∷ x2 ∷ x3 ∷ x4 ∷ xs) z = Contains-later x1 z (x2 ∷ x3 ∷ x4 ∷ xs) in
      let a2 : Contains (x3 ∷ x4 ∷ xs) z → Contains (x2 ∷ x3 ∷ x4 ∷ xs) z = Contains-later x2 z (x3 ∷ x4 ∷ xs) in
      let a3 : Contains (x4 ∷ xs) z → Contains (x3 ∷ x4 ∷ xs) z = Contains-later x3 z (x4 ∷ xs) in
      ⊎_elim (λ l. ⊎_elim (λ e. Contains-first x1 z (x2 ∷ x3 ∷ x4 ∷ xs) e) (λ e. a1 (Contains-first x2 z (x3 ∷ x4 ∷ xs) e)) l)
      (λ l. ⊎_elim (λ e. a1 (a2 (Contains-first x3 z (x4 ∷ xs) e))) (λ e. a1 (a2 (a3 (Contains-first x4 z xs e)))) l)
      h

-- and in eight
module _ {X : Type 0} (x1 x2 x3 x4 x5 x6 x7 x8 z : X) where
  pub eight_of : Contains (x1 ∷ x2 ∷ x3 ∷ x4 ∷ x5 ∷ x6 ∷ x7 ∷ x8 ∷ []) z → IsOneOfFour x1 x2 x3 x4 z [] ⊎ IsOneOfFour x5 x6 x7 x8 z []
  eight_of c =
      ⊎_elim (λ h. inl h) (λ more. ⊎_elim (λ h. inr h) (λ none. absurd (none_in z none)) (four_of x5 x6 x7 x8 z [] more))
      (four_of x1 x2 x3 x4 z (x5 ∷ x6 ∷ x7 ∷ x8 ∷ []) c)

  pub of_eight : IsOneOfFour x1 x2 x3 x4 z [] ⊎ IsOneOfFour x5 x6 x7 x8 z [] → Contains (x1 ∷ x2 ∷ x3 ∷ x4 ∷ x5 ∷ x6 ∷ x7 ∷ x8 ∷ []) z
  of_eight h =
      ⊎_elim (λ f. of_four x1 x2 x3 x4 z (x5 ∷ x6 ∷ x7 ∷ x8 ∷ []) f) (λ f. later_four x1 x2 x3 x4 z (x5 ∷ x6 ∷ x7 ∷ x8 ∷ []) (of_four x5 x6 x7 x8 z [] f)) h

-- of a row or a column with the number `at`: what stands for the one before it, for itself and for the one after it,
-- and what for the number b
pub record Axis {X : Type 0} (at b : ℕ) (before mid after there : X) : Type 0 where
  pub beside : DifferByOne at b → (before ≡ there) ⊎ (after ≡ there)
  pub from_before : before ≡ there → DifferByOne at b
  pub from_after : after ≡ there → DifferByOne at b
  pub same : at ≡ b → mid ≡ there
  pub from_same : mid ≡ there → at ≡ b

module _ {X : Type 0} {row col : ℕ} {b : ℕ × ℕ} {up here down left mid right r c : X} (R : Axis row b.0 up here down r) (C : Axis col b.1 left mid right c) where
  pub sides_of : AreBeside (row, col) b → IsOneOfFour {X = X × X} (up, mid) (here, left) (here, right) (down, mid) (r, c) []
  sides_of h =
      ⊎_elim (λ w.
      let is = R.same w.0 in
      ⊎_elim (λ e. inl (inr (same_pair (here, left) (r, c) is e))) (λ e. inr (inl (same_pair (here, right) (r, c) is e))) (C.beside w.1))
      (λ w.
      let is = C.same w.0 in
      ⊎_elim (λ e. inl (inl (same_pair (up, mid) (r, c) e is))) (λ e. inr (inr (same_pair (down, mid) (r, c) e is))) (R.beside w.1))
      h

  pub of_sides : IsOneOfFour {X = X × X} (up, mid) (here, left) (here, right) (down, mid) (r, c) [] → AreBeside (row, col) b
  of_sides h =
      ⊎_elim (λ l. ⊎_elim (λ e. inr (C.from_same (ap (λ x. x.1) e), R.from_before (ap (λ x. x.0) e)))
      (λ e. inl (R.from_same (ap (λ x. x.0) e), C.from_before (ap (λ x. x.1) e))) l)
      (λ l. ⊎_elim (λ e. inl (R.from_same (ap (λ x. x.0) e), C.from_after (ap (λ x. x.1) e)))
      (λ e. inr (C.from_same (ap (λ x. x.1) e), R.from_after (ap (λ x. x.0) e))) l)
      h

  pub corners_of : AreDiagonal (row, col) b → IsOneOfFour {X = X × X} (up, left) (up, right) (down, left) (down, right) (r, c) []
  corners_of h =
      let beside = C.beside h.1 in
      ⊎_elim (λ e. ⊎_elim (λ f. inl (inl (same_pair (up, left) (r, c) e f))) (λ f. inl (inr (same_pair (up, right) (r, c) e f))) beside)
      (λ e. ⊎_elim (λ f. inr (inl (same_pair (down, left) (r, c) e f))) (λ f. inr (inr (same_pair (down, right) (r, c) e f))) beside)
      (R.beside h.0)

  pub of_corners : IsOneOfFour {X = X × X} (up, left) (up, right) (down, left) (down, right) (r, c) [] → AreDiagonal (row, col) b
  of_corners h =
      ⊎_elim (λ l. ⊎_elim (λ e. (R.from_before (ap (λ x. x.0) e), C.from_before (ap (λ x. x.1) e)))
      (λ e. (R.from_before (ap (λ x. x.0) e), C.from_after (ap (λ x. x.1) e))) l)
      (λ l. ⊎_elim (λ e. (R.from_after (ap (λ x. x.0) e), C.from_before (ap (λ x. x.1) e)))
      (λ e. (R.from_after (ap (λ x. x.0) e), C.from_after (ap (λ x. x.1) e))) l)
      h

-- the number before one wraps below 0
wrapped : (at b : ℕ) → at + 1 < 2 ^ 64 → b + 1 < 2 ^ 64 → Axis at b ((at + (2 ^ 64 - 1)) % 2 ^ 64) at (at + 1) b
wrapped at b small fits =
    record {
      beside = λ d. ⊎_elim (λ e. inr e) (λ e. let is : (at + (2 ^ 64 - 1)) % 2 ^ 64 ≡ b = omega arith in inl is) d;
      from_before = λ e. let is : b + 1 ≡ at = omega arith in inr is;
      from_after = λ e. inl e;
      same = λ e. e;
      from_same = λ e. e;
    }

module _ (row col : ℕ) (row_in : row + 1 < 2 ^ 64) (col_in : col + 1 < 2 ^ 64) where
  abbrev pub up : ℕ
  up = (row + (2 ^ 64 - 1)) % 2 ^ 64

  abbrev pub left : ℕ
  left = (col + (2 ^ 64 - 1)) % 2 ^ 64

  pub AreSteps-sides : AreSteps Four (row, col) ((up, col) ∷ (row, left) ∷ (row, col + 1) ∷ (row + 1, col) ∷ [])
  AreSteps-sides b fits0 fits1 =
      let R = wrapped row b.0 row_in fits0 in
      let C = wrapped col b.1 col_in fits1 in (
        λ c. ⊎_elim (λ h. of_sides R C h) (λ none. absurd (none_in b none)) (four_of _ _ _ _ b [] c),
        λ s. of_four _ _ _ _ b [] (sides_of R C s),
      )

  pub AreSteps-all : AreSteps Eight (row, col) ((up, col) ∷ (row, left) ∷ (row, col + 1) ∷ (row + 1, col) ∷ (up, left) ∷ (up, col + 1) ∷ (row + 1, left) ∷ (row + 1, col + 1) ∷ [])
  AreSteps-all b fits0 fits1 =
      let R = wrapped row b.0 row_in fits0 in
      let C = wrapped col b.1 col_in fits1 in (
        λ c. ⊎_elim (λ h. inl (of_sides R C h)) (λ h. inr (of_corners R C h)) (eight_of _ _ _ _ _ _ _ _ b c),
        λ s. of_eight _ _ _ _ _ _ _ _ b (⊎_elim (λ h. inl (sides_of R C h)) (λ h. inr (corners_of R C h)) s),
      )

-- what is read is contained
pub Contains-from_get : (starts : List (ℕ × ℕ)) (j : ℕ) (a : ℕ × ℕ) → slice_get starts j ≡ Some a → Contains starts a
Contains-from_get starts j a e =
    let lt = slice_get_within starts j a e in
    subst (λ x. Contains starts x) (get_or_from_slice_get starts j a a e) (Contains-get_or starts j a lt)

-- what a list contains is read at some place
pub place_of : (region : List (ℕ × ℕ)) (b : ℕ × ℕ) → Contains region b → (j : ℕ) × IsAt region j b
place_of region b is =
    let lt : is.0 < length region = is.1 in
    (is.0, slice_get_read region (length region) is.0 b refl lt (sym is.2))

-- what is in a list before place i
pub record Before (xs : List (ℕ × ℕ)) (i : ℕ) (b : ℕ × ℕ) : Type 0 where
  pub place : ℕ
  pub early : place < i
  pub at : IsAt xs place b

module _ (xs : List (ℕ × ℕ)) (i : ℕ) where
  -- the positions before place i, and the one there
  pub before_either : (b : ℕ × ℕ) → IsAt xs i b → (a : ℕ × ℕ) → (Before xs i a ⊎ (b ≡ a)) ↔ Before xs (i + 1) a
  before_either b place a = (
    λ w. ⊎_elim (λ h. record { place = h.place; early = omega (arith, h.early); at = h.at })
        (λ e. record { place = i; early = omega arith; at = subst (λ x. IsAt xs i x) e place }) w,
    λ h. ⊎_elim (λ less. inl (record { place = h.place; early = less; at = h.at }))
        (λ ge.
        let lt = h.early in
        let is : h.place ≡ i = omega arith in
        let here : IsAt xs i a = subst (λ x. IsAt xs x a) is h.at in
        let both : Some b ≡ Some a = sym place ∙ here in
        let same : b ≡ a = cc in
        inr same)
        (cases_lt h.place i),
  )

  pub before_all : length xs ≤ i → (b : ℕ × ℕ) → Before xs i b ↔ Contains xs b
  before_all all b = (
    λ h. Contains-from_get xs h.place b h.at,
    λ c. let v = place_of xs b c in
        let lt = slice_get_within xs v.0 b v.1 in
        record { place = v.0; early = omega arith; at = v.1 },
  )
