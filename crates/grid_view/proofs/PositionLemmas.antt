-- The cells of a table passed row by row.
use Rattle.std.proofs.Common.{◌≡◌, ℕ, ◌+◌, ◌<◌, ◌≤◌, ◌⊎◌, inl, inr, Bool, true, false, List, [], ◌∷◌, ◌++◌, length, slice_index_or, refl, subst, sym, ◌∙◌, ap, arith, length-append, Bor}
use Rattle.std.specs.List.{All}
use Rattle.grid_base.proofs.Common.{cases_lt, get_or_append_left, get_or-append_seam, get_or_default, row_count, col_count, InRange}
use Rattle.grid_view.specs.Found.{Precedes, IsAmong, AnswersAt, FoundAll}

-- P holds of the positions before (r, c)
module _ {T : Type 0} (t : List (List T)) (P : ℕ × ℕ → Type 0) where
  abbrev pub HoldsBefore : ℕ → ℕ → Type 0
  HoldsBefore r c = (i j : ℕ) → InRange t i j → Precedes (i, j) (r, c) → P (i, j)

  pub before_none : HoldsBefore 0 0
  before_none i j within (inl lt) = absurd (omega (arith, lt))
  before_none i j within (inr e) = absurd (omega (arith, e.1))

  pub before_next : (r c : ℕ) → HoldsBefore r c → P (r, c) → HoldsBefore r (c + 1)
  before_next r c h p i j within (inl lt) = h i j within (inl lt)
  before_next r c h p i j within (inr e) = elim (cases_lt j c) [
    | inl lt ↦ h i j within (inr (e.0, lt))
    | inr ge ↦
        let row : i ≡ r = e.0 in
        let col : j ≡ c = omega (arith, e.1, ge) in
        subst (λ k. P (k, j)) (sym row) (subst (λ k. P (r, k)) (sym col) p)
  ]

  pub before_row : (r c : ℕ) → col_count t ≤ c → HoldsBefore r c → HoldsBefore (r + 1) 0
  before_row r c le h i j within (inr e) = absurd (omega (arith, e.1))
  before_row r c le h i j within (inl lt) = elim (cases_lt i r) [
    | inl less ↦ h i j within (inl less)
    | inr ge ↦ h i j within (inr (omega (arith, lt, ge), omega (arith, within.1, le)))
  ]

  pub before_all : (r : ℕ) → row_count t ≤ r → HoldsBefore r 0 → (i j : ℕ) → InRange t i j → P (i, j)
  before_all r le h i j within = h i j within (inl (omega (arith, within.0, le)))

-- a position that is put after others
module _ (xs : List (ℕ × ℕ)) (x : ℕ × ℕ) where
  put_old : (k : ℕ) (a : ℕ × ℕ) → k < length xs → a ≡ slice_index_or xs k a → a ≡ slice_index_or (xs ++ x ∷ []) k a
  put_old k a lt e = e ∙ sym (get_or_append_left xs (x ∷ []) a k lt)

  put_split : (k : ℕ) (a : ℕ × ℕ) → k < length (xs ++ x ∷ []) → a ≡ slice_index_or (xs ++ x ∷ []) k a → ((k < length xs) × (a ≡ slice_index_or xs k a)) ⊎ ((k ≡ length xs) × (a ≡ x))
  put_split k a lt e = elim (cases_lt k (length xs)) [
    | inl less ↦ inl (less, e ∙ get_or_append_left xs (x ∷ []) a k less)
    | inr ge ↦
        let last : k ≡ length xs = omega (arith, lt, ge, length-append xs (x ∷ [])) in
        inr (last, e ∙ (ap (λ n. slice_index_or (xs ++ x ∷ []) n a) last ∙ get_or-append_seam xs x [] a))
  ]

  among_old : (a : ℕ × ℕ) → IsAmong xs a → IsAmong (xs ++ x ∷ []) a
  among_old a h = (h.0, omega (arith, h.1, length-append xs (x ∷ [])), put_old h.0 a h.1 h.2)

  among_new : IsAmong (xs ++ x ∷ []) x
  among_new = (length xs, omega (arith, length-append xs (x ∷ [])), sym (get_or-append_seam xs x [] x))

  among_split : (a : ℕ × ℕ) → IsAmong (xs ++ x ∷ []) a → IsAmong xs a ⊎ (a ≡ x)
  among_split a h = elim (put_split h.0 a h.1 h.2) [
    | inl old ↦ inl (h.0, old.0, old.1)
    | inr new ↦ inr new.1
  ]

precedes_not : (a b : ℕ × ℕ) → Precedes a b → a ≡ b → ⊥
precedes_not a b (inl lt) e = omega (arith, lt, ap (λ (p : ℕ × ℕ). p.0) e)
precedes_not a b (inr h) e = omega (arith, h.1, ap (λ (p : ℕ × ℕ). p.1) e)

module _ {F T : Type 0} (returns : F → Bor T → Bool → Type 0) (f : F) (t : List (List T)) where
  abbrev pub Sorted : List (ℕ × ℕ) → ℕ × ℕ → Type 0
  Sorted found at = (IsAmong found at × AnswersAt returns f t at true)
      ⊎ ((IsAmong found at → ⊥) × AnswersAt returns f t at false)

  -- the positions before (r, c) are passed, and these were found among them
  pub record FoundBefore (found : List (ℕ × ℕ)) (r c : ℕ) : Type 0 where
    pub in_range : (k : ℕ) (at : ℕ × ℕ) → k < length found → at ≡ slice_index_or found k at → InRange t at.0 at.1
    pub in_order : (i j : ℕ) (a b : ℕ × ℕ) → i < j → j < length found → a ≡ slice_index_or found i a → b ≡ slice_index_or found j b → Precedes a b
    pub passed : (k : ℕ) (at : ℕ × ℕ) → k < length found → at ≡ slice_index_or found k at → Precedes at (r, c)
    pub each : HoldsBefore t (Sorted found) r c

  pub found_none : FoundBefore [] 0 0
  found_none = record {
    in_range = λ k at lt e. absurd (omega (arith, lt));
    in_order = λ i j a b lt l ea eb. absurd (omega (arith, l));
    passed = λ k at lt e. absurd (omega (arith, lt));
    each = before_none t (Sorted []);
  }

  module _ (found : List (ℕ × ℕ)) (r c : ℕ) (h : FoundBefore found r c) where
    -- a cell that isn't one of them
    pub found_next : AnswersAt returns f t (r, c) false → FoundBefore found r (c + 1)
    found_next said = record {
      in_range = h.in_range;
      in_order = h.in_order;
      passed = λ k at lt e. later (h.passed k at lt e);
      each = before_next t (Sorted found) r c h.each (inr ((λ among. precedes_not (r, c) (r, c) (h.passed among.0 (r, c) among.1 among.2) refl), said));
    }
      where
        later : {at : ℕ × ℕ} → Precedes at (r, c) → Precedes at (r, c + 1)
        later (inl lt) = inl lt
        later (inr e) = inr (e.0, omega (arith, e.1))

    -- a cell that is
    pub found_one : InRange t r c → AnswersAt returns f t (r, c) true → FoundBefore (found ++ (r, c) ∷ []) r (c + 1)
    found_one within said = record {
      in_range = λ k at lt e. elim (put_split found (r, c) k at lt e) [
        | inl old ↦ h.in_range k at old.0 old.1
        | inr new ↦ subst (λ (p : ℕ × ℕ). InRange t p.0 p.1) (sym new.1) within
      ];
      in_order = λ i j a b lt l ea eb. elim (put_split found (r, c) j b l eb) [
        | inl old ↦ h.in_order i j a b lt old.0 (older i j a lt old.0 ea) old.1
        | inr new ↦ subst (λ p. Precedes a p) (sym new.1) (h.passed i a (omega (arith, lt, new.0)) (ea ∙ get_or_append_left found ((r, c) ∷ []) a i (omega (arith, lt, new.0))))
      ];
      passed = λ k at lt e. elim (put_split found (r, c) k at lt e) [
        | inl old ↦ later (h.passed k at old.0 old.1)
        | inr new ↦ subst (λ p. Precedes p (r, c + 1)) (sym new.1) (inr (refl, omega arith))
      ];
      each = before_next t (Sorted (found ++ (r, c) ∷ [])) r c (λ i j lt before. grown (i, j) before (h.each i j lt before)) (inl (among_new found (r, c), said));
    }
      where
        later : {at : ℕ × ℕ} → Precedes at (r, c) → Precedes at (r, c + 1)
        later (inl lt) = inl lt
        later (inr e) = inr (e.0, omega (arith, e.1))

        older : (i j : ℕ) (a : ℕ × ℕ) → i < j → j < length found → a ≡ slice_index_or (found ++ (r, c) ∷ []) i a → a ≡ slice_index_or found i a
        older i j a lt l e = e ∙ get_or_append_left found ((r, c) ∷ []) a i (omega (arith, lt, l))

        grown : (at : ℕ × ℕ) → Precedes at (r, c) → Sorted found at → Sorted (found ++ (r, c) ∷ []) at
        grown at before (inl p) = inl (among_old found (r, c) at p.0, p.1)
        grown at before (inr p) = inr (
          (λ among. elim (among_split found (r, c) at among) [
            | inl old ↦ p.0 old
            | inr new ↦ precedes_not at (r, c) before new
          ]),
          p.1,
        )

    pub found_row : col_count t ≤ c → FoundBefore found (r + 1) 0
    found_row le = record {
      in_range = h.in_range;
      in_order = h.in_order;
      passed = λ k at lt e. lower (h.passed k at lt e);
      each = before_row t (Sorted found) r c le h.each;
    }
      where
        lower : {at : ℕ × ℕ} → Precedes at (r, c) → Precedes at (r + 1, 0)
        lower (inl lt) = inl (omega (arith, lt))
        lower (inr e) = inl (omega (arith, e.0))

  pub found_all : (found : List (ℕ × ℕ)) (r : ℕ) → row_count t ≤ r → FoundBefore found r 0 → FoundAll returns f t found
  found_all found r le h = record { in_range = h.in_range; in_order = h.in_order; each = before_all t (Sorted found) r le h.each }

  -- each of them is in range
  pub found_in_range : (found : List (ℕ × ℕ)) → FoundAll returns f t found → All (λ at. InRange t at.0 at.1) found
  found_in_range found h k d lt =
      h.in_range k (slice_index_or found k d) lt (get_or_default found k d (slice_index_or found k d) lt)
