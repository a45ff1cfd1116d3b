-- A list of changes, of which the done ones take steps back, and the others do steps again.
use Rattle.std.proofs.Common.{◌≡◌, ℕ, zero, suc, ◌+◌, ◌<◌, ◌≤◌, IsTrue, ◌↔◌, MatchBool, Bool, true, false, Option, Some, None, List, [], ◌∷◌, ◌++◌, length, set, take, drop, reverse, refl, sym, ◌∙◌, ap, subst, arith, slice_get, add-one, length-drop, length-set, length-take-le, IsSomeAnd, ◌-◌, take-append-drop, take_all, ⊎_elim}
use Rattle.std.proofs.lemmas.List.{drop-drop, drop-take, take-set, drop-set, drop-set-lt, take_more_set, reverse-append, length-reverse}
use Rattle.std.proofs.lemmas.Bool.{cases_lt}
use Rattle.grid.specs.Prelude.{GridValue}
use Rattle.grid_changes.specs.declared.change.Change.{Change}
use Rattle.grid_changes.specs.Timeline.{Board, Timeline, board_of, boards_back, FirstHasOtherCount, IsBackBy, IsStepBack}
use Rattle.grid_changes.specs.Change.{Fits, after, is_of_lines, Inverts}
use Rattle.grid_changes.proofs.ChangeLemmas.{other_count}
use Rattle.grid_changes.proofs.RollLemmas.{take_seam}
use Rattle.grid_changes.specs.Steps.{boards_along, Lead, timeline_of, AreSteps, FitsAt, HasTurned}

module _ {X : Type 0} where
  pub at_within : (xs : List X) (i : ℕ) (x : X) → slice_get xs i ≡ Some x → i < length xs
  at_within [] i x e = cc
  at_within (y ∷ xs) zero x e = omega arith
  at_within (y ∷ xs) (suc i) x e = omega (arith, at_within xs i x e)

  take_one : (xs : List X) (i : ℕ) (x : X) → slice_get xs i ≡ Some x → take (suc i) xs ≡ take i xs ++ x ∷ []
  take_one [] i x e = cc
  take_one (y ∷ xs) zero x e = let s : y ≡ x = cc in ap (λ v. v ∷ []) s
  take_one (y ∷ xs) (suc i) x e = ap (λ v. y ∷ v) (take_one xs i x e)

  pub drop_one : (xs : List X) (i : ℕ) (x : X) → slice_get xs i ≡ Some x → drop i xs ≡ x ∷ drop (suc i) xs
  drop_one [] i x e = cc
  drop_one (y ∷ xs) zero x e = let s : y ≡ x = cc in ap (λ v. v ∷ xs) s
  drop_one (y ∷ xs) (suc i) x e = drop_one xs i x e

  -- the last one done
  pub back-last : (xs : List X) (i : ℕ) (x : X) → slice_get xs i ≡ Some x → reverse (take (i + 1) xs) ≡ x ∷ reverse (take i xs)
  back-last xs i x e = ap (λ n. reverse (take n xs)) (add-one i) ∙ (ap reverse (take_one xs i x e) ∙ reverse-append (take i xs) (x ∷ []))

  -- one is replaced
  pub back-set : (xs : List X) (i : ℕ) (y : X) → reverse (take i (set xs i y)) ≡ reverse (take i xs)
  back-set xs i y = ap reverse (take-set xs i y)

  pub on-set : (xs : List X) (i : ℕ) (y : X) → i < length xs → drop i (set xs i y) ≡ y ∷ drop (i + 1) xs
  on-set xs i y lt = drop-set xs i y lt

  pub back-set_more : (xs : List X) (i : ℕ) (y : X) → i < length xs → reverse (take (i + 1) (set xs i y)) ≡ y ∷ reverse (take i xs)
  back-set_more xs i y lt = ap reverse (take_more_set xs i y lt) ∙ reverse-append (take i xs) (y ∷ [])

  pub on-set_more : (xs : List X) (i : ℕ) (y : X) → drop (i + 1) (set xs i y) ≡ drop (i + 1) xs
  on-set_more xs i y = drop-set-lt (i + 1) xs i y (omega arith)

-- what holds of the item at a place
some_at : {X : Type 0} (P : X → Type 0) (xs : List X) (i : ℕ) → i < length xs → ((x : X) → slice_get xs i ≡ Some x → P x) → IsSomeAnd (slice_get xs i) P
some_at P [] i lt h = absurd (omega arith)
some_at P (x ∷ xs) zero lt h = h x refl
some_at P (x ∷ xs) (suc i) lt h = some_at P xs i (omega arith) h

-- the item at a place of which something holds
pub there_is : {X : Type 0} (P : X → Type 0) (o : Option X) → IsSomeAnd o P → (x : X) × (o ≡ Some x) × P x
there_is P None h = absurd h
there_is P (Some x) h = (x, refl, h)

-- the first items of a list and one more
take_head : {X : Type 0} (k : ℕ) (xs ys : List X) (y : X) → y ∷ ys ≡ drop k xs → take (suc k) xs ≡ take k xs ++ y ∷ []
take_head zero [] ys y e = absurd (cc e)
take_head zero (x ∷ xs) ys y e = let s : x ≡ y = cc in ap (λ v. v ∷ []) s
take_head (suc k) [] ys y e = absurd (cc e)
take_head (suc k) (x ∷ xs) ys y e = ap (λ v. x ∷ v) (take_head k xs ys y e)

drop_head : {X : Type 0} (k : ℕ) (xs ys : List X) (y : X) → y ∷ ys ≡ drop k xs → ys ≡ drop (suc k) xs
drop_head zero [] ys y e = absurd (cc e)
drop_head zero (x ∷ xs) ys y e = cc
drop_head (suc k) [] ys y e = absurd (cc e)
drop_head (suc k) (x ∷ xs) ys y e = drop_head k xs ys y e

-- one step back after k others
pub back_one_more : {T : Type 0} (k : ℕ) (old mid new : Timeline T) → IsBackBy k old mid → IsStepBack mid new → IsBackBy (k + 1) old new
back_one_more k old mid new h s =
    let here : boards_back mid ≡ drop k (boards_back old) = h.past in
    record {
      past = sym s.past ∙ (drop_head k (boards_back old) mid.past (board_of mid.grid) here ∙ ap (λ n. drop n (boards_back old)) (sym (add-one k)));
      future =
          s.future
          ∙ (ap (λ v. board_of mid.grid ∷ v) h.future
          ∙ ap (λ v. v ++ old.future)
          (sym (ap (λ n. reverse (take n (boards_back old))) (add-one k)
          ∙ (ap reverse (take_head k (boards_back old) mid.past (board_of mid.grid) here) ∙ reverse-append (take k (boards_back old)) (board_of mid.grid ∷ [])))));
    }

pub not_back : {T : Type 0} (old : Timeline T) → IsBackBy 0 old old
not_back old = record { past = refl; future = refl }

-- how many steps can be taken back after k
pub back_left : {T : Type 0} (k : ℕ) (old new : Timeline T) → IsBackBy k old new → length new.past ≡ length old.past - k
back_left k old new h = omega (arith, ap length h.past, length-drop k (boards_back old))

-- one more step back, where there is one
pub back_again_by : {T : Type 0} (k count : ℕ) (found : Bool) (old mid new : Timeline T) → IsBackBy k old mid → k < length old.past - count → IsTrue found ↔ (0 < length mid.past) → MatchBool found (IsStepBack mid new) (new ≡ mid) → IsBackBy (k + 1) old new
back_again_by k count true old mid new h lt is step = back_one_more k old mid new h step
back_again_by k count false old mid new h lt is step =
    let some : false ≡ true = is.1 (omega (arith, back_left k old mid h, lt)) in
    absurd (cc some)

-- at most this many are kept
pub kept_most : {X : Type 0} (n count k : ℕ) (xs : List X) → n ≡ length xs → k ≡ n - count → take (n - k) xs ≡ take count xs
kept_most n count k xs e is =
    ⊎_elim {C = take (n - k) xs ≡ take count xs}
    (λ lt. ap (λ m. take m xs) (omega (arith, is, lt)))
    (λ le. take_all (n - k) xs (omega (arith, is, le, e)) ∙ sym (take_all count xs (omega (arith, le, e))))
    (cases_lt count n)

-- the last n items of a list, the last first
reverse_drop : {X : Type 0} (n k : ℕ) (xs : List X) → n ≡ length xs - k → reverse (drop k xs) ≡ take n (reverse xs)
reverse_drop n k xs e =
    sym (ap (λ v. take n (reverse v)) (sym (take-append-drop k xs))
    ∙ (ap (take n) (reverse-append (take k xs) (drop k xs))
    ∙ take_seam n (reverse (drop k xs)) (reverse (take k xs)) (omega (arith, e, length-drop k xs, length-reverse (drop k xs)))))

module _ {T A : Type 0} where
  length-boards : (xs : List (Change T A)) (b : Board T) → length (boards_along xs b) ≡ length xs
  length-boards [] b = refl
  length-boards (x ∷ xs) b = omega (arith, length-boards xs (after x b))

  -- how many boards there are before and ahead
  pub past_count : (g : GridValue T) (xs : List (Change T A)) (done : ℕ) → AreSteps g xs done → done ≡ length (timeline_of g xs done).past
  past_count g xs done h =
      omega (arith, h.within, length-boards (reverse (take done xs)) (board_of g), length-reverse (take done xs), length-take-le done xs h.within)

  pub future_count : (g : GridValue T) (xs : List (Change T A)) (done : ℕ) → AreSteps g xs done → length xs - done ≡ length (timeline_of g xs done).future
  future_count g xs done h = omega (arith, length-boards (drop done xs) (board_of g), length-drop done xs)

  -- where a list begins with x, the boards begin with the one to which it leads
  boards_from : (xs ys : List (Change T A)) (x : Change T A) (b c : Board T) → xs ≡ x ∷ ys → c ≡ after x b → boards_along xs b ≡ c ∷ boards_along ys c
  boards_from xs ys x b c e m = ap (λ v. boards_along v b) e ∙ ap (λ v. v ∷ boards_along ys v) (sym m)

  Lead_from : (xs ys : List (Change T A)) (x : Change T A) (b c : Board T) → xs ≡ x ∷ ys → c ≡ after x b → Lead xs b → Lead ys c
  Lead_from xs ys x b c e m h =
      let h : Lead (x ∷ ys) b = subst (λ v. Lead v b) e h in
      subst (Lead ys) (sym m) h.1

  Lead_back : (xs ys : List (Change T A)) (y : Change T A) (b c : Board T) → xs ≡ y ∷ ys → Inverts y c b → Lead ys b → Lead xs c
  Lead_back xs ys y b c e i h =
      let k : Lead (y ∷ ys) c = (i.fits, subst (Lead ys) (sym i.leads) h) in
      subst (λ v. Lead v c) (sym e) k

  -- the last one done can be taken back, and the first undone done again
  fits_first : (xs ys : List (Change T A)) (x : Change T A) (b : Board T) → xs ≡ x ∷ ys → Lead xs b → Fits x b
  fits_first xs ys x b e h = let h : Lead (x ∷ ys) b = subst (λ v. Lead v b) e h in h.0

  pub fits_back : (g : GridValue T) (xs : List (Change T A)) (at done : ℕ) → done ≡ at + 1 → AreSteps g xs done → FitsAt xs at g
  fits_back g xs at done e h =
      let back : Lead (reverse (take (at + 1) xs)) (board_of g) = subst (λ n. Lead (reverse (take n xs)) (board_of g)) e h.back in
      some_at (λ x. Fits x (board_of g)) xs at (omega (arith, h.within, e))
      (λ x is. fits_first (reverse (take (at + 1) xs)) (reverse (take at xs)) x (board_of g) (back-last xs at x is) back)

  pub fits_on : (g : GridValue T) (xs : List (Change T A)) (at : ℕ) → at < length xs → AreSteps g xs at → FitsAt xs at g
  fits_on g xs at lt h =
      some_at (λ x. Fits x (board_of g)) xs at lt
      (λ x is. fits_first (drop at xs) (drop (at + 1) xs) x (board_of g) (drop_one xs at x is ∙ ap (λ n. x ∷ drop n xs) (sym (add-one at))) h.on)

  module _ (at : ℕ) (old new : GridValue T) (xs ys : List (Change T A)) (t : HasTurned at old xs new ys) where
    within : at < length xs
    within = at_within xs at t.x t.was

    set-within : length ys ≡ length xs
    set-within = ap length t.now ∙ length-set xs at t.y

    -- one step back
    back_first : reverse (take (at + 1) xs) ≡ t.x ∷ reverse (take at ys)
    back_first = back-last xs at t.x t.was ∙ ap (λ v. t.x ∷ v) (sym (ap (λ v. reverse (take at v)) t.now ∙ back-set xs at t.y))

    on_first : drop at ys ≡ t.y ∷ drop (at + 1) xs
    on_first = ap (drop at) t.now ∙ on-set xs at t.y within

    pub steps_back : AreSteps old xs (at + 1) → AreSteps new ys at
    steps_back h = record {
      within = omega (arith, within, set-within);
      back = Lead_from (reverse (take (at + 1) xs)) (reverse (take at ys)) t.x (board_of old) (board_of new) back_first t.made h.back;
      on = Lead_back (drop at ys) (drop (at + 1) xs) t.y (board_of old) (board_of new) on_first t.back h.on;
    }

    pub stepped_back : IsStepBack (timeline_of old xs (at + 1)) (timeline_of new ys at)
    stepped_back = record {
      past = boards_from (reverse (take (at + 1) xs)) (reverse (take at ys)) t.x (board_of old) (board_of new) back_first t.made;
      future = boards_from (drop at ys) (drop (at + 1) xs) t.y (board_of new) (board_of old) on_first (sym t.back.leads);
    }

    -- one step on again
    again_first : drop at xs ≡ t.x ∷ drop (at + 1) ys
    again_first =
        drop_one xs at t.x t.was
        ∙ (ap (λ n. t.x ∷ drop n xs) (sym (add-one at))
        ∙ ap (λ v. t.x ∷ v) (sym (ap (drop (at + 1)) t.now ∙ on-set_more xs at t.y)))

    back_again : reverse (take (at + 1) ys) ≡ t.y ∷ reverse (take at xs)
    back_again = ap (λ v. reverse (take (at + 1) v)) t.now ∙ back-set_more xs at t.y within

    pub steps_on : AreSteps old xs at → AreSteps new ys (at + 1)
    steps_on h = record {
      within = omega (arith, within, set-within);
      back = Lead_back (reverse (take (at + 1) ys)) (reverse (take at xs)) t.y (board_of old) (board_of new) back_again t.back h.back;
      on = Lead_from (drop at xs) (drop (at + 1) ys) t.x (board_of old) (board_of new) again_first t.made h.on;
    }

    pub stepped_on_again : IsStepBack (timeline_of new ys (at + 1)) (timeline_of old xs at)
    stepped_on_again = record {
      past = boards_from (reverse (take (at + 1) ys)) (reverse (take at xs)) t.y (board_of new) (board_of old) back_again (sym t.back.leads);
      future = boards_from (drop at xs) (drop (at + 1) ys) t.x (board_of old) (board_of new) again_first t.made;
    }

  -- the older steps are dropped
  boards_taken : (n : ℕ) (xs : List (Change T A)) (b : Board T) → boards_along (take n xs) b ≡ take n (boards_along xs b)
  boards_taken zero xs b = refl
  boards_taken (suc n) [] b = refl
  boards_taken (suc n) (x ∷ xs) b = ap (λ v. after x b ∷ v) (boards_taken n xs (after x b))

  Lead_taken : (n : ℕ) (xs : List (Change T A)) (b : Board T) → Lead xs b → Lead (take n xs) b
  Lead_taken zero xs b h = tt
  Lead_taken (suc n) [] b h = tt
  Lead_taken (suc n) (x ∷ xs) b h = (h.0, Lead_taken n xs (after x b) h.1)

  module _ (g : GridValue T) (xs : List (Change T A)) (done k : ℕ) (h : AreSteps g xs done) (le : k ≤ done) where
    back_left_over : reverse (take (done - k) (drop k xs)) ≡ take (done - k) (reverse (take done xs))
    back_left_over =
        ap reverse (sym (drop-take k (done - k) xs) ∙ ap (λ n. drop k (take n xs)) (omega (arith, le)))
        ∙ reverse_drop (done - k) k (take done xs) (omega (arith, length-take-le done xs h.within))

    on_left_over : drop (done - k) (drop k xs) ≡ drop done xs
    on_left_over = drop-drop (done - k) k xs ∙ ap (λ n. drop n xs) (omega (arith, le))

    pub steps_kept : AreSteps g (drop k xs) (done - k)
    steps_kept = record {
      within = omega (arith, h.within, le, length-drop k xs);
      back = subst (λ v. Lead v (board_of g)) (sym back_left_over) (Lead_taken (done - k) (reverse (take done xs)) (board_of g) h.back);
      on = subst (λ v. Lead v (board_of g)) (sym on_left_over) h.on;
    }

    pub past_kept : (timeline_of g (drop k xs) (done - k)).past ≡ take (done - k) (timeline_of g xs done).past
    past_kept = ap (λ v. boards_along v (board_of g)) back_left_over ∙ boards_taken (done - k) (reverse (take done xs)) (board_of g)

  -- where a step can't be taken back, or done again, it is one of lines, so the boards differ in how
  -- many cells they have
  first_differs : (xs ys : List (Change T A)) (x : Change T A) (g : GridValue T) → xs ≡ x ∷ ys → Fits x (board_of g) → IsTrue (is_of_lines x) → FirstHasOtherCount (boards_along xs (board_of g)) (board_of g)
  first_differs xs ys x g e fits is =
      let there : boards_along xs (board_of g) ≡ after x (board_of g) ∷ boards_along ys (after x (board_of g)) = boards_from xs ys x (board_of g) (after x (board_of g)) e refl in
      let differs : FirstHasOtherCount (after x (board_of g) ∷ boards_along ys (after x (board_of g))) (board_of g) = other_count x g fits is in
      subst (λ v. FirstHasOtherCount v (board_of g)) (sym there) differs

  pub back_differs : (g : GridValue T) (xs : List (Change T A)) (at done : ℕ) → done ≡ at + 1 → AreSteps g xs done → IsSomeAnd (slice_get xs at) (λ x. IsTrue (is_of_lines x)) → FirstHasOtherCount (timeline_of g xs done).past (board_of g)
  back_differs g xs at done e h some =
      let is = there_is (λ x. IsTrue (is_of_lines x)) (slice_get xs at) some in
      let back : Lead (reverse (take (at + 1) xs)) (board_of g) = subst (λ n. Lead (reverse (take n xs)) (board_of g)) e h.back in
      let first : reverse (take (at + 1) xs) ≡ is.0 ∷ reverse (take at xs) = back-last xs at is.0 is.1 in
      subst (λ n. FirstHasOtherCount (timeline_of g xs n).past (board_of g)) (sym e)
      (first_differs (reverse (take (at + 1) xs)) (reverse (take at xs)) is.0 g first (fits_first (reverse (take (at + 1) xs)) (reverse (take at xs)) is.0 (board_of g) first back) is.2)

  pub on_differs : (g : GridValue T) (xs : List (Change T A)) (at : ℕ) → AreSteps g xs at → IsSomeAnd (slice_get xs at) (λ x. IsTrue (is_of_lines x)) → FirstHasOtherCount (timeline_of g xs at).future (board_of g)
  on_differs g xs at h some =
      let is = there_is (λ x. IsTrue (is_of_lines x)) (slice_get xs at) some in
      let first : drop at xs ≡ is.0 ∷ drop (suc at) xs = drop_one xs at is.0 is.1 in
      first_differs (drop at xs) (drop (suc at) xs) is.0 g first (fits_first (drop at xs) (drop (suc at) xs) is.0 (board_of g) first h.on) is.2
