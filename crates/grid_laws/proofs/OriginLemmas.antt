-- Where swaps one after another bring the items of a list from.
use Rattle.std.proofs.Common.{◌≡◌, ◌≢◌, ℕ, suc, ◌<◌, ◌≤◌, min, cond, eqb, Option, List, [], ◌∷◌, ◌++◌, length, take, refl, sym, ◌∙◌, ap, subst, arith, inl, inr, ⊎_elim, ◌⊎◌, slice_get, swap, length-take-le, length-append, eq-eqb, ne_eqb}
use Rattle.grid_laws.proofs.Common.{swapped_from_swap, length-swap, slice_get-get_or, slice_get_past, cases_lt, cases_eq, cond-true, cond-false, same_cells, get-take, AreWithin, swapped_all, Makes}

-- the place that a swap of the items at i and j brings the item at place k from
pub turned : ℕ → ℕ → ℕ → ℕ
turned i j k = cond (eqb k i) j (cond (eqb k j) i k)

pub turned_first : (i j k : ℕ) → k ≡ i → turned i j k ≡ j
unfolding turned
turned_first i j k e = cond-true (eqb k i) j (cond (eqb k j) i k) (eq-eqb k i e)

pub turned_second : (i j k : ℕ) → k ≢ i → k ≡ j → turned i j k ≡ i
unfolding turned
turned_second i j k ne e =
    cond-false (eqb k i) j (cond (eqb k j) i k) (ne_eqb k i ne) ∙ cond-true (eqb k j) i k (eq-eqb k j e)

pub turned_other : (i j k : ℕ) → k ≢ i → k ≢ j → turned i j k ≡ k
unfolding turned
turned_other i j k ne nf =
    cond-false (eqb k i) j (cond (eqb k j) i k) (ne_eqb k i ne) ∙ cond-false (eqb k j) i k (ne_eqb k j nf)

-- a fact of the three cases is a fact
by_turn : (P : ℕ → Type 0) (i j k : ℕ) → (k ≡ i → P j) → (k ≢ i → k ≡ j → P i) → (k ≢ i → k ≢ j → P k) → P (turned i j k)
by_turn P i j k a b c =
    ⊎_elim (λ e. subst P (sym (turned_first i j k e)) (a e))
    (λ ne.
    ⊎_elim (λ e. subst P (sym (turned_second i j k ne e)) (b ne e)) (λ nf. subst P (sym (turned_other i j k ne nf)) (c ne nf))
    (cases_eq k j))
    (cases_eq k i)

turned_twice : (i j k : ℕ) → turned i j (turned i j k) ≡ k
turned_twice i j k =
    by_turn (λ x. turned i j x ≡ k) i j k
    (λ e. by_turn (λ x. x ≡ k) i j j (λ f. omega arith) (λ nf f. omega arith) (λ nf ng. absurd (ng refl)))
    (λ ne e. by_turn (λ x. x ≡ k) i j i (λ f. omega arith) (λ nf f. absurd (nf refl)) (λ nf ng. absurd (nf refl)))
    (λ ne nf. turned_other i j k ne nf)

turned_within : (n i j k : ℕ) → i < n → j < n → k < n → turned i j k < n
turned_within n i j k a b c = by_turn (λ x. x < n) i j k (λ e. b) (λ ne e. a) (λ ne nf. c)

-- only the item that moves to the earlier place comes from a later one
turned_low : (i j k : ℕ) → k ≢ min i j → turned i j k ≤ k
turned_low i j k h = by_turn (λ x. x ≤ k) i j k (λ e. omega arith) (λ ne e. omega arith) (λ ne nf. omega arith)

get-swap : {T : Type 0} (xs : List T) (i j k : ℕ) → i < length xs → j < length xs → slice_get (swap xs i j) k ≡ slice_get xs (turned i j k)
get-swap [] i j k p q = absurd (omega arith)
get-swap (d ∷ ys) i j k p q =
    let len = length-swap (d ∷ ys) i j in
    let at = swapped_from_swap (d ∷ ys) _ i j d p q refl in
    by_turn (λ x. slice_get (swap (d ∷ ys) i j) k ≡ slice_get (d ∷ ys) x) i j k
    (λ e.
    ap (slice_get (swap (d ∷ ys) i j)) e
    ∙ (slice_get-get_or (swap (d ∷ ys) i j) i d (omega arith)
    ∙ (ap (λ x. Option.Some x) at.0 ∙ sym (slice_get-get_or (d ∷ ys) j d q))))
    (λ ne e.
    ap (slice_get (swap (d ∷ ys) i j)) e
    ∙ (slice_get-get_or (swap (d ∷ ys) i j) j d (omega arith)
    ∙ (ap (λ x. Option.Some x) at.1 ∙ sym (slice_get-get_or (d ∷ ys) i d p))))
    (λ ne nf.
    ⊎_elim (λ lt. slice_get-get_or (swap (d ∷ ys) i j) k d (omega arith)
    ∙ (ap (λ x. Option.Some x) (at.2 k ne nf) ∙ sym (slice_get-get_or (d ∷ ys) k d lt)))
    (λ ge. slice_get_past (swap (d ∷ ys) i j) k (omega arith) ∙ sym (slice_get_past (d ∷ ys) k ge))
    (cases_lt k (length (d ∷ ys))))

-- the place that the swaps bring the item at place k from
unfoldable pub origin : List (ℕ × ℕ) → ℕ → ℕ
origin [] k = k
origin (p ∷ ps) k = turned p.0 p.1 (origin ps k)

-- the place that they bring the item at place k to
target : List (ℕ × ℕ) → ℕ → ℕ
target [] k = k
target (p ∷ ps) k = target ps (turned p.0 p.1 k)

target-origin : (ps : List (ℕ × ℕ)) (k : ℕ) → target ps (origin ps k) ≡ k
unfolding origin target
target-origin [] k = refl
target-origin (p ∷ ps) k = ap (target ps) (turned_twice p.0 p.1 (origin ps k)) ∙ target-origin ps k

pub origin_within : (n : ℕ) (ps : List (ℕ × ℕ)) (k : ℕ) → AreWithin n ps → k < n → origin ps k < n
unfolding origin
origin_within n [] k w lt = lt
origin_within n (p ∷ ps) k w lt = turned_within n p.0 p.1 (origin ps k) w.0.0 w.0.1 (origin_within n ps k w.1 lt)

pub length-swapped_all : {T : Type 0} (ps : List (ℕ × ℕ)) (xs : List T) → length (swapped_all ps xs) ≡ length xs
length-swapped_all [] xs = refl
length-swapped_all (p ∷ ps) xs = length-swapped_all ps (swap xs p.0 p.1) ∙ length-swap xs p.0 p.1

pub get-swapped_all : {T : Type 0} (ps : List (ℕ × ℕ)) (xs : List T) (k : ℕ) → AreWithin (length xs) ps → slice_get (swapped_all ps xs) k ≡ slice_get xs (origin ps k)
unfolding origin
get-swapped_all [] xs k w = refl
get-swapped_all (p ∷ ps) xs k w =
    get-swapped_all ps (swap xs p.0 p.1) k (subst (λ n. AreWithin n ps) (sym (length-swap xs p.0 p.1)) w.1)
    ∙ get-swap xs p.0 p.1 (origin ps k) w.0.0 w.0.1

-- swaps make a list where each of its items comes from its place in the old one, and only there
pub makes : {T : Type 0} (ps : List (ℕ × ℕ)) (xs ys : List T) → AreWithin (length xs) ps → length ys ≤ length xs → ((k : ℕ) → k < length ys → slice_get xs (origin ps k) ≡ slice_get ys k) → Makes ps xs ys
makes ps xs ys w le same =
    let long = length-swapped_all ps xs in
    let short = length-take-le (length ys) (swapped_all ps xs) (omega arith) in
    record {
      within = w;
      front = same_cells (take (length ys) (swapped_all ps xs)) ys short
          (λ k lt. get-take (length ys) (swapped_all ps xs) k (omega arith) ∙ (get-swapped_all ps xs k w ∙ same k (omega arith)));
    }

pub made : {T : Type 0} (ps : List (ℕ × ℕ)) (xs ys : List T) → Makes ps xs ys → (k : ℕ) → k < length ys → slice_get xs (origin ps k) ≡ slice_get ys k
made ps xs ys m k lt =
    sym (get-swapped_all ps xs k m.within) ∙ (sym (get-take (length ys) (swapped_all ps xs) k lt) ∙ ap (λ v. slice_get v k) m.front)

-- items come to different places from different places
pub origin_different : (ps : List (ℕ × ℕ)) (j k : ℕ) → origin ps j ≡ origin ps k → j ≡ k
origin_different ps j k e = sym (target-origin ps j) ∙ (ap (target ps) e ∙ target-origin ps k)

-- the same swaps in opposite order, which undo them
pub undoing : List (ℕ × ℕ) → List (ℕ × ℕ)
undoing [] = []
undoing (p ∷ ps) = undoing ps ++ p ∷ []

pub length-undoing : (ps : List (ℕ × ℕ)) → length (undoing ps) ≡ length ps
unfolding undoing
length-undoing [] = refl
length-undoing (p ∷ ps) = omega (arith, length-append (undoing ps) (p ∷ []), length-undoing ps)

within-append : (n : ℕ) (ps qs : List (ℕ × ℕ)) → AreWithin n ps → AreWithin n qs → AreWithin n (ps ++ qs)
within-append n [] qs v w = w
within-append n (p ∷ ps) qs v w = (v.0, within-append n ps qs v.1 w)

pub undoing_within : (n : ℕ) (ps : List (ℕ × ℕ)) → AreWithin n ps → AreWithin n (undoing ps)
unfolding undoing
undoing_within n [] w = tt
undoing_within n (p ∷ ps) w = within-append n (undoing ps) (p ∷ []) (undoing_within n ps w.1) (w.0, tt)

origin-append : (ps qs : List (ℕ × ℕ)) (k : ℕ) → origin (ps ++ qs) k ≡ origin ps (origin qs k)
unfolding origin
origin-append [] qs k = refl
origin-append (p ∷ ps) qs k = ap (turned p.0 p.1) (origin-append ps qs k)

pub origin_undone : (ps : List (ℕ × ℕ)) (k : ℕ) → origin ps (origin (undoing ps) k) ≡ k
unfolding origin undoing
origin_undone [] k = refl
origin_undone (p ∷ ps) k =
    ap (λ j. turned p.0 p.1 (origin ps j)) (origin-append (undoing ps) (p ∷ []) k)
    ∙ (ap (turned p.0 p.1) (origin_undone ps (turned p.0 p.1 k)) ∙ turned_twice p.0 p.1 k)

-- x is in the list
abbrev pub In : ℕ → List ℕ → Type 0
In x [] = ⊥
In x (y ∷ ys) = (x ≡ y) ⊎ In x ys

-- one place a swap, which have all items that come from later places
pub lowered : List (ℕ × ℕ) → List ℕ
lowered [] = []
lowered (p ∷ ps) = target ps (min p.0 p.1) ∷ lowered ps

pub length-lowered : (ps : List (ℕ × ℕ)) → length (lowered ps) ≡ length ps
unfolding lowered
length-lowered [] = refl
length-lowered (p ∷ ps) = ap suc (length-lowered ps)

pub in_lowered : (ps : List (ℕ × ℕ)) (k : ℕ) → k < origin ps k → In k (lowered ps)
unfolding origin lowered
in_lowered [] k lt = absurd (omega arith)
in_lowered (p ∷ ps) k lt =
    ⊎_elim (λ e. inl (sym (target-origin ps k) ∙ ap (target ps) e))
    (λ ne. let low = turned_low p.0 p.1 (origin ps k) ne in inr (in_lowered ps k (omega arith)))
    (cases_eq (origin ps k) (min p.0 p.1))
