-- Walks reversed, paths and walks, and a path that follows the step counts down.
use Rattle.std.proofs.Common.{◌≡◌, ℕ, zero, suc, ◌+◌, ◌-◌, ◌<◌, ◌≤◌, Bool, Option, Some, List, [], ◌∷◌, ◌++◌, length, refl, sym, subst, arith, inl, inr, ⊎_elim, add-one, ◌^◌, take, Contains, MatchOption, None, slice_get, length-append, unwrap_or}
use Rattle.grid_paths.proofs.Common.{slice_get_within, row_count, col_count, IsTable, cell_in_range, AreSteps, IsOpen, DifferByOne, AreBeside, IsStep, Walk, IsLeastSteps, IsPath, IsShortestPath, IsMarked, IsAt, HasLeastUpTo, IsSettled}
use Rattle.grid_near.specs.declared.steps.Connectivity.{Connectivity}
use Rattle.grid_near.specs.declared.steps.Connectivity.TheVariants.{Four, Eight}
use Rattle.grid_paths.proofs.SearchLemmas.{one_place}
use Rattle.grid_paths.proofs.StepLemmas.{at_push, at_end, at_push_fresh}

differ_back : (m n : ℕ) → DifferByOne m n → DifferByOne n m
differ_back m n h = ⊎_elim (λ e. inr e) (λ e. inl e) h

beside_back : (a b : ℕ × ℕ) → AreBeside a b → AreBeside b a
beside_back a b h =
    ⊎_elim (λ w. inl (sym w.0, differ_back a.1 b.1 w.1)) (λ w. inr (sym w.0, differ_back a.0 b.0 w.1)) h

pub step_back : (connectivity : Connectivity) (a b : ℕ × ℕ) → IsStep connectivity a b → IsStep connectivity b a
step_back Four a b h = beside_back a b h
step_back Eight a b h =
    ⊎_elim (λ w. inl (beside_back a b w)) (λ w. inr (differ_back a.0 b.0 w.0, differ_back a.1 b.1 w.1)) h

module _ (connectivity : Connectivity) (mask : List (List Bool)) where
  -- a step more at the front
  walk_front : (n : ℕ) (a b c : ℕ × ℕ) → IsStep connectivity a b → IsOpen mask a → Walk connectivity mask b c n → Walk connectivity mask a c (suc n)
  walk_front zero a b c beside is_open w = (a, (refl, is_open), subst (λ x. IsStep connectivity a x) w.0 beside, w.1)
  walk_front (suc n) a b c beside is_open w = (w.0, walk_front n a b w.0 beside is_open w.1, w.2, w.3)

  pub walk_back : (n : ℕ) (a b : ℕ × ℕ) → Walk connectivity mask a b n → Walk connectivity mask b a n
  walk_back zero a b w = (sym w.0, subst (λ x. IsOpen mask x) (sym w.0) w.1)
  walk_back (suc n) a b w = walk_front n b w.0 a (step_back connectivity w.0 b w.2) w.3 (walk_back n a w.0 w.1)

  pub least_back : (a b : ℕ × ℕ) (k : ℕ) → IsLeastSteps connectivity mask a b k → IsLeastSteps connectivity mask b a k
  least_back a b k h =
      record { walk = walk_back k a b h.walk; least = λ n w. h.least n (walk_back n b a w) }

  -- the positions of a path up to place n are a walk of n steps
  walk_along : (from to : ℕ × ℕ) (path : List (ℕ × ℕ)) → IsPath connectivity mask from to path → (n : ℕ) (b : ℕ × ℕ) → slice_get path n ≡ Some b → Walk connectivity mask from b n
  walk_along from to path h zero b e =
      (one_place path 0 from b h.first e, h.all_open 0 b e)
  walk_along from to path h (suc n) b e =
      let lt : suc n < length path = slice_get_within path (suc n) b e in
      let before = there path n (omega arith) in
      let e1 : slice_get path (n + 1) ≡ Some b = subst (λ x. slice_get path x ≡ Some b) (sym (add-one n)) e in
      (before.0, walk_along from to path h n before.0 before.1, h.each_step n before.0 b before.1 e1, h.all_open (suc n) b e)
    where
      there : (xs : List (ℕ × ℕ)) (j : ℕ) → j < length xs → (a : ℕ × ℕ) × (slice_get xs j ≡ Some a)
      there [] j lt = absurd (omega arith)
      there (x ∷ xs) zero lt = (x, refl)
      there (x ∷ xs) (suc j) lt = there xs j (omega arith)

  some_place : (from to : ℕ × ℕ) (path : List (ℕ × ℕ)) → IsPath connectivity mask from to path → 0 < length path
  some_place from to path h = slice_get_within path 0 from h.first

  pub walk_of : (from to : ℕ × ℕ) (path : List (ℕ × ℕ)) → IsPath connectivity mask from to path → Walk connectivity mask from to (length path - 1)
  walk_of from to path h = walk_along from to path h (length path - 1) to h.last

  -- a path of one step more than the least is a shortest one
  pub IsShortestPath-from_least : (from to : ℕ × ℕ) (path : List (ℕ × ℕ)) (k : ℕ) → IsPath connectivity mask from to path → length path ≡ k + 1 → IsLeastSteps connectivity mask from to k → IsShortestPath connectivity mask from to path
  IsShortestPath-from_least from to path k h len least =
      record {
        leads = h;
        shortest = λ other o.
            let le = least.least (length other - 1) (walk_of from to other o) in
            let some = some_place from to other o in
            omega arith;
      }

  -- a path of one position
  pub IsPath-one : (a : ℕ × ℕ) → IsOpen mask a → IsPath connectivity mask a a (a ∷ [])
  IsPath-one a is_open =
      record {
        first = refl;
        last = refl;
        all_open = all_open;
        each_step = each_step;
      }
    where
      all_open : (j : ℕ) (b : ℕ × ℕ) → slice_get (a ∷ []) j ≡ Some b → IsOpen mask b
      all_open zero b e = let q : a ≡ b = cc in subst (λ x. IsOpen mask x) q is_open
      all_open (suc j) b e = absurd (cc)

      each_step : (j : ℕ) (b c : ℕ × ℕ) → slice_get (a ∷ []) j ≡ Some b → slice_get (a ∷ []) (j + 1) ≡ Some c → IsStep connectivity b c
      each_step j b c e f = let lt = slice_get_within (a ∷ []) (j + 1) c f in absurd (omega arith)

  -- a path with one position more
  pub IsPath-push : (from a b : ℕ × ℕ) (path : List (ℕ × ℕ)) → IsPath connectivity mask from a path → IsStep connectivity a b → IsOpen mask b → IsPath connectivity mask from b (path ++ b ∷ [])
  IsPath-push from a b path h beside is_open =
      let some = some_place from a path h in
      let len : length (path ++ b ∷ []) ≡ length path + 1 = length-append path (b ∷ []) in
      let end : length (path ++ b ∷ []) - 1 ≡ length path = omega arith in
      record {
        first = at_push path b 0 from h.first;
        last = subst (λ x. IsAt (path ++ b ∷ []) x b) (sym end) (at_end path b);
        all_open = all_open;
        each_step = each_step some;
      }
    where
      all_open : (j : ℕ) (c : ℕ × ℕ) → IsAt (path ++ b ∷ []) j c → IsOpen mask c
      all_open j c e =
          ⊎_elim (λ w. subst (λ x. IsOpen mask x) (sym w.1) is_open) (λ e0. h.all_open j c e0) (at_push_fresh path b j c e)

      each_step : 0 < length path → (j : ℕ) (c d : ℕ × ℕ) → IsAt (path ++ b ∷ []) j c → IsAt (path ++ b ∷ []) (j + 1) d → IsStep connectivity c d
      each_step some j c d e f =
          ⊎_elim (λ w.
          ⊎_elim (λ v. let clash : j ≡ length path = v.0 in let next : j + 1 ≡ length path = w.0 in absurd (omega arith))
          (λ e0.
          let next : j + 1 ≡ length path = w.0 in
          let place : length path - 1 ≡ j = omega arith in
          let l : IsAt path j a = subst (λ x. IsAt path x a) place h.last in
          let c_is : a ≡ c = one_place path j a c l e0 in
          subst (λ x. IsStep connectivity x d) c_is (subst (λ x. IsStep connectivity a x) (sym w.1) beside))
          (at_push_fresh path b j c e))
          (λ f0.
          let lt : j + 1 < length path = slice_get_within path (j + 1) d f0 in
          ⊎_elim (λ v. let clash : j ≡ length path = v.0 in absurd (omega arith))
          (λ e0. h.each_step j c d e0 f0)
          (at_push_fresh path b j c e))
          (at_push_fresh path b (j + 1) d f)

  -- next to a position whose step count isn't 0 there is one whose count is one less
  pub one_less : (from : ℕ × ℕ) (u : List (List (Option ℕ))) (d : ℕ) → HasLeastUpTo connectivity mask from u d → (a : ℕ × ℕ) (k : ℕ) → suc k ≤ d → IsMarked u a (suc k) → (b : ℕ × ℕ) × IsStep connectivity a b × IsMarked u b k
  one_less from u d h a k le mark =
      let s = h.least a (suc k) le mark in
      let w = s.walk in
      let v = h.found w.0 k (omega arith) w.1 in
      let low : v.0 ≤ k = v.2 in
      let t = h.least w.0 v.0 (omega arith) v.1 in
      let longer : Walk connectivity mask from a (suc v.0) = (w.0, t.walk, w.2, w.3) in
      let high : suc k ≤ suc v.0 = s.least (suc v.0) longer in
      let e : v.0 ≡ k = omega arith in
      (w.0, step_back connectivity w.0 a w.2, subst (λ x. IsMarked u w.0 x) e v.1)

  -- the last position of a walk is open
  pub open_end : (n : ℕ) (a b : ℕ × ℕ) → Walk connectivity mask a b n → IsOpen mask b
  open_end zero a b w = w.1
  open_end (suc n) a b w = w.3

  -- the number 0 is only at the start
  pub zero_at : (from : ℕ × ℕ) (u : List (List (Option ℕ))) (d : ℕ) → HasLeastUpTo connectivity mask from u d → (a : ℕ × ℕ) → IsMarked u a 0 → a ≡ from
  zero_at from u d h a mark = sym (h.least a 0 (omega arith) mark).walk.0

  -- a path from a position with a number to the one with 0, of that many steps, is a shortest one
  pub IsShortestPath-from_number : (from to : ℕ × ℕ) (u : List (List (Option ℕ))) (count : ℕ) (path : List (ℕ × ℕ)) → HasLeastUpTo connectivity mask to u count → IsMarked u from count → IsPath connectivity mask from to path → length path ≡ count + 1 → IsShortestPath connectivity mask from to path
  IsShortestPath-from_number from to u count path h mark leads len =
      IsShortestPath-from_least from to path count leads len (least_back to from count (h.least from count (omega arith) mark))

  -- from a position without a number no walk leads
  pub no_walk : (from to : ℕ × ℕ) (u : List (List (Option ℕ))) → IsSettled connectivity mask to from u → ((k : ℕ) → IsMarked u from k → ⊥) → (n : ℕ) → Walk connectivity mask from to n → ⊥
  no_walk from to u h none n w = h.none none n (walk_back n from to w)

-- a position with a number is one that a grid can have
module _ (u : List (List (Option ℕ))) (table : IsTable u) (rows : row_count u < 2 ^ 64) (cols : col_count u < 2 ^ 64) (at : ℕ × ℕ) (xs : List (ℕ × ℕ)) (k : ℕ) where
  fits : (b : ℕ × ℕ) → IsMarked u b k → (b.0 + 1 < 2 ^ 64) × (b.1 + 1 < 2 ^ 64)
  fits b m =
      let i = cell_in_range u table b.0 b.1 (Some k) m in
      let lr = i.0 in
      let lc = i.1 in
      (omega arith, omega arith)

  -- one that shares a side is a step away of either connectivity
  pub step_side : AreSteps Four at (take 4 xs) → (b : ℕ × ℕ) → Contains (take 4 xs) b → IsMarked u b k → (connectivity : Connectivity) → IsStep connectivity at b
  step_side sides b c m Four = let f = fits b m in (sides b f.0 f.1).0 c
  step_side sides b c m Eight = let f = fits b m in inl ((sides b f.0 f.1).0 c)

  -- where none of those has the number, a step to it is one to a corner
  pub step_any : AreSteps Four at (take 4 xs) → AreSteps Eight at xs → ((b : ℕ × ℕ) → Contains (take 4 xs) b → IsMarked u b k → ⊥) → (found : Option (ℕ × ℕ)) → MatchOption found ((b : ℕ × ℕ) → Contains xs b → IsMarked u b k → ⊥) (λ b. Contains xs b × IsMarked u b k) → (connectivity : Connectivity) (b : ℕ × ℕ) → IsStep connectivity at b → IsMarked u b k → IsStep connectivity at (unwrap_or found at) × IsMarked u (unwrap_or found at) k
  step_any sides all none found h Four b s m = let f = fits b m in absurd (none b ((sides b f.0 f.1).1 s) m)
  step_any sides all none None h Eight b s m = let f = fits b m in absurd (h b ((all b f.0 f.1).1 s) m)
  step_any sides all none (Some a) h Eight b s m = let f = fits a h.1 in ((all a f.0 f.1).0 h.0, h.1)
