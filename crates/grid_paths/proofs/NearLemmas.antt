-- A step leads to a neighbor.
use Rattle.std.proofs.Common.{◌≡◌, ℕ, zero, suc, ◌+◌, ◌<◌, ◌↔◌, Option, None, Some, List, [], ◌∷◌, length, Contains, refl, sym, ◌∙◌, ap, subst, arith, inl, inr, ⊎_elim, filter_map, option_map}
use Rattle.grid_paths.proofs.Common.{cons_option, cell, around4, around8, before, cell_at, neighbors4, neighbors8, DifferByOne, IsStep}
use Rattle.grid_near.specs.declared.steps.Connectivity.TheVariants.{Four, Eight}
use Rattle.grid_paths.proofs.AroundLemmas.{Contains-cases, Axis, none_in, four_of, of_four, eight_of, of_eight, sides_of, of_sides, corners_of, of_corners}

pub Contains-more : {X : Type 0} (o : Option X) (xs : List X) (x : X) → Contains xs x → Contains (cons_option o xs) x
Contains-more None xs x c = c
Contains-more (Some y) xs x c = let lt : c.0 < length xs = c.1 in (suc c.0, omega arith, c.2)

module _ {X Y : Type 0} (f : X → Option Y) where
  given : (xs : List X) (x : X) (y : Y) → Contains xs x → f x ≡ Some y → Contains (filter_map f xs) y
  given [] x y c e = absurd (let lt : c.0 < 0 = c.1 in omega arith)
  given (z ∷ xs) x y c e =
      ⊎_elim (λ is. subst (λ o. Contains (cons_option o (filter_map f xs)) y) (sym (ap f is ∙ e)) (0, omega arith, refl))
      (λ later. Contains-more (f z) (filter_map f xs) y (given xs x y later e))
      (Contains-cases z x xs c)

  given_by : (xs : List X) (y : Y) → Contains (filter_map f xs) y → (x : X) × Contains xs x × (f x ≡ Some y)
  given_by [] y c = absurd (let lt : c.0 < 0 = c.1 in omega arith)
  given_by (z ∷ xs) y c = by (f z) refl (given_by xs y) c
    where
      later : (x : X) × Contains xs x × (f x ≡ Some y) → (x : X) × Contains (z ∷ xs) x × (f x ≡ Some y)
      later v = let lt : v.1.0 < length xs = v.1.1 in (v.0, (suc v.1.0, omega arith, v.1.2), v.2)

      by : (o : Option Y) → f z ≡ o → (Contains (filter_map f xs) y → (x : X) × Contains xs x × (f x ≡ Some y)) → Contains (cons_option o (filter_map f xs)) y → (x : X) × Contains (z ∷ xs) x × (f x ≡ Some y)
      by None e rest h = later (rest h)
      by (Some w) e rest h =
          ⊎_elim (λ is. (z, (0, omega arith, refl), e ∙ ap Some is)) (λ h0. later (rest h0)) (Contains-cases w y (filter_map f xs) h)

-- a number as a neighbor has it, who may be before the first
option_axis : (k j : ℕ) → Axis k j (before k) (Some k) (Some (k + 1)) (Some j)
option_axis k j =
    record {
      beside = λ d. ⊎_elim (λ e. inr (ap Some e)) (λ e. inl (last k e)) d;
      from_before = λ e. first k e;
      from_after = λ e. let same : k + 1 ≡ j = cc in inl same;
      same = λ e. ap Some e;
      from_same = λ e. cc;
    }
  where
    last : (k : ℕ) → j + 1 ≡ k → before k ≡ Some j
    last zero e = absurd (omega arith)
    last (suc k) e = let same : k ≡ j = omega arith in ap Some same

    first : (k : ℕ) → before k ≡ Some j → DifferByOne k j
    first zero e = absurd (cc)
    first (suc k) e = let same : k ≡ j = cc in let next : j + 1 ≡ suc k = omega arith in inr next

module _ {X : Type 0} (t : List (List X)) (r c : ℕ) (b : ℕ × ℕ) (x : X) where
  R : Axis r b.0 (before r) (Some r) (Some (r + 1)) (Some b.0)
  R = option_axis r b.0

  C : Axis c b.1 (before c) (Some c) (Some (c + 1)) (Some b.1)
  C = option_axis c b.1

  at : Option ℕ × Option ℕ
  at = (Some b.0, Some b.1)

  -- an item of the list that has the cell there is that position
  is_at : (p : Option ℕ × Option ℕ) → cell_at (cell t) p ≡ Some (b, x) → p ≡ at
  unfolding at
  is_at p e = of p.0 p.1 e
    where
      found : (i j : ℕ) (o : Option X) → option_map {U = (ℕ × ℕ) × X} (λ y. ((i, j), y)) o ≡ Some (b, x) → ◌≡◌ {A = Option ℕ × Option ℕ} (Some i, Some j) (Some b.0, Some b.1)
      found i j None f = absurd (cc)
      found i j (Some y) f =
          let both : ◌≡◌ {A = (ℕ × ℕ) × X} ((i, j), y) (b, x) = cc in
          ap (λ z. (Some z.0.0, Some z.0.1)) both

      of : (u v : Option ℕ) → cell_at (cell t) (u, v) ≡ Some (b, x) → ◌≡◌ {A = Option ℕ × Option ℕ} (u, v) (Some b.0, Some b.1)
      of None v f = absurd (cc)
      of (Some i) None f = absurd (cc)
      of (Some i) (Some j) f = found i j (cell t i j) f

  -- the neighbors among these positions
  listed : (xs : List (Option ℕ × Option ℕ)) → cell t b.0 b.1 ≡ Some x → Contains xs at ↔ Contains (filter_map (cell_at (cell t)) xs) (b, x)
  unfolding at
  listed xs e = (
    λ h. given (cell_at (cell t)) xs (Some b.0, Some b.1) (b, x) h (ap (λ o. option_map (λ y. (b, y)) o) e),
    λ h. let v = given_by (cell_at (cell t)) xs (b, x) h in subst (λ p. Contains xs p) (is_at v.0 v.2) v.1,
  )

  pub sides-near : cell t b.0 b.1 ≡ Some x → IsStep Four (r, c) b ↔ Contains (neighbors4 t r c) (b, x)
  unfolding neighbors4 at
  sides-near e =
      let same = listed (around4 (before r) (Some r) (Some (r + 1)) (before c) (Some c) (Some (c + 1))) e in (
        λ s. same.0 (of_four _ _ _ _ (Some b.0, Some b.1) [] (sides_of R C s)),
        λ h. ⊎_elim (λ f. of_sides R C f) (λ none. absurd (none_in (Some b.0, Some b.1) none)) (four_of _ _ _ _ (Some b.0, Some b.1) [] (same.1 h)),
      )

  pub all-near : cell t b.0 b.1 ≡ Some x → IsStep Eight (r, c) b ↔ Contains (neighbors8 t r c) (b, x)
  unfolding neighbors8 at
  all-near e =
      let same = listed (around8 (before r) (Some r) (Some (r + 1)) (before c) (Some c) (Some (c + 1))) e in (
        λ s. same.0 (of_eight _ _ _ _ _ _ _ _ (Some b.0, Some b.1)
            (⊎_elim (λ h. ⊎_elim (λ l. ⊎_elim (λ u. inl (inl (inr u))) (λ l. inl (inr (inr l))) l) (λ l. ⊎_elim (λ r. inr (inl (inl r))) (λ d. inr (inr (inl d))) l) (sides_of R C h))
            (λ h. ⊎_elim (λ l. ⊎_elim (λ p. inl (inl (inl p))) (λ p. inl (inr (inl p))) l) (λ l. ⊎_elim (λ p. inr (inl (inr p))) (λ p. inr (inr (inr p))) l) (corners_of R C h))
            s)),
        λ h.
            ⊎_elim (λ f. ⊎_elim (λ l. ⊎_elim (λ p. inr (of_corners R C (inl (inl p)))) (λ u. inl (of_sides R C (inl (inl u)))) l) (λ l. ⊎_elim (λ p. inr (of_corners R C (inl (inr p)))) (λ p. inl (of_sides R C (inl (inr p)))) l) f)
            (λ f. ⊎_elim (λ l. ⊎_elim (λ p. inl (of_sides R C (inr (inl p)))) (λ p. inr (of_corners R C (inr (inl p)))) l) (λ l. ⊎_elim (λ p. inl (of_sides R C (inr (inr p)))) (λ p. inr (of_corners R C (inr (inr p)))) l) f)
            (eight_of _ _ _ _ _ _ _ _ (Some b.0, Some b.1) (same.1 h)),
      )
