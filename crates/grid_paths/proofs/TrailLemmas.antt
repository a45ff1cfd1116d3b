-- The trail of the settled positions, and the path that follows it back.
use Rattle.std.proofs.Common.{◌≡◌, ℕ, zero, suc, ◌+◌, ◌-◌, ◌<◌, ◌≤◌, ◌⊎◌, Option, None, Some, List, [], ◌∷◌, ◌++◌, length, reverse, refl, sym, ◌∙◌, ap, subst, arith, inl, inr, ⊎_elim, slice_get, sum_by, unwrap_or}
use Rattle.grid_paths.proofs.Common.{cases_eq, reverse-append, sum_by-cons, slice_get_within, DifferByOne, AreBeside, IsStep, Holds, CostWalk, IsCostPath, cost_at, Entry, IsClosed, Comes, IsCostSearch, IsTrail, IsTrailOf}
use Rattle.grid_near.specs.declared.steps.Connectivity.{Connectivity}
use Rattle.grid_near.specs.declared.steps.Connectivity.TheVariants.{Four, Eight}
use Rattle.grid_paths.proofs.SearchLemmas.{one_mark}
use Rattle.grid_paths.proofs.StepLemmas.{at_push, at_end, at_push_fresh}
use Rattle.grid_paths.specs.declared.costs.Settled.{Settled}
use Rattle.grid_paths.specs.Trail.{ComesBefore}

one_item : (trail : List Settled) (j : ℕ) (x y : Settled) → slice_get trail j ≡ Some x → slice_get trail j ≡ Some y → x ≡ y
one_item trail j x y e f = let q : ◌≡◌ {A = Option Settled} (Some x) (Some y) = sym e ∙ f in ap (λ o. unwrap_or o x) q

differs : (n : ℕ) → DifferByOne n n → ⊥
differs n d = ⊎_elim (λ e. absurd (omega arith)) (λ e. absurd (omega arith)) d

-- no step stays
not_beside : (a : ℕ × ℕ) → AreBeside a a → ⊥
not_beside a s = ⊎_elim (λ w. differs a.1 w.1) (λ w. differs a.0 w.1) s

no_step : (connectivity : Connectivity) (a : ℕ × ℕ) → IsStep connectivity a a → ⊥
no_step Four a s = not_beside a s
no_step Eight a s = ⊎_elim (λ w. not_beside a w) (λ w. differs a.0 w.0) s

module _ (connectivity : Connectivity) (costs : List (List (Option ℕ))) where
  cost_is : (a : ℕ × ℕ) (k : ℕ) → Holds costs a k → cost_at costs a ≡ k
  cost_is a k h = ap (λ o. unwrap_or (unwrap_or o None) 0) h

  IsCostPath-one : (a : ℕ × ℕ) (k : ℕ) → Holds costs a k → IsCostPath connectivity costs a a (a ∷ []) 0
  IsCostPath-one a k h =
      record {
        first = refl;
        last = refl;
        each_cost = each_cost;
        each_step = each_step;
        once = once;
        sum_is = refl;
      }
    where
      each_cost : (j : ℕ) (c : ℕ × ℕ) → slice_get (a ∷ []) j ≡ Some c → (k : ℕ) × Holds costs c k
      each_cost zero c e = let q : a ≡ c = cc in (k, subst (λ x. Holds costs x k) q h)
      each_cost (suc j) c e = absurd (cc)

      each_step : (j : ℕ) (b c : ℕ × ℕ) → slice_get (a ∷ []) j ≡ Some b → slice_get (a ∷ []) (j + 1) ≡ Some c → IsStep connectivity b c
      each_step j b c e f = let lt = slice_get_within (a ∷ []) (j + 1) c f in absurd (omega arith)

      once : (i j : ℕ) (c : ℕ × ℕ) → slice_get (a ∷ []) i ≡ Some c → slice_get (a ∷ []) j ≡ Some c → i ≡ j
      once i j c e f = let li = slice_get_within (a ∷ []) i c e in let lj = slice_get_within (a ∷ []) j c f in omega arith

  -- a path with one position more at its front
  IsCostPath-cons : (c a b : ℕ × ℕ) (path : List (ℕ × ℕ)) (sum j k : ℕ) → Holds costs c j → IsStep connectivity c a → Holds costs a k → ((i : ℕ) → slice_get path i ≡ Some c → ⊥) → IsCostPath connectivity costs a b path sum → IsCostPath connectivity costs c b (c ∷ path) (sum + k)
  IsCostPath-cons c a b [] sum j k h step cost fresh p = absurd (let e = p.first in cc)
  IsCostPath-cons c a b (x ∷ path) sum j k h step cost fresh p =
      record {
        first = refl;
        last = subst (λ n. slice_get (c ∷ x ∷ path) n ≡ Some b) next p.last;
        each_cost = each_cost;
        each_step = each_step;
        once = once;
        sum_is = total;
      }
    where
      is : x ≡ a
      is = let e = p.first in cc

      next : suc (length (x ∷ path) - 1) ≡ length (c ∷ x ∷ path) - 1
      next = omega arith

      total : sum + k ≡ sum_by (cost_at costs) (x ∷ path)
      total =
          let old : sum ≡ sum_by (cost_at costs) path = p.sum_is in
          let here = cost_is x k (subst (λ y. Holds costs y k) (sym is) cost) in
          omega (arith, sum_by-cons (cost_at costs) x path)

      each_cost : (i : ℕ) (d : ℕ × ℕ) → slice_get (c ∷ x ∷ path) i ≡ Some d → (k : ℕ) × Holds costs d k
      each_cost zero d e = let q : c ≡ d = cc in (j, subst (λ y. Holds costs y j) q h)
      each_cost (suc i) d e = p.each_cost i d e

      each_step : (i : ℕ) (d e : ℕ × ℕ) → slice_get (c ∷ x ∷ path) i ≡ Some d → slice_get (c ∷ x ∷ path) (i + 1) ≡ Some e → IsStep connectivity d e
      each_step zero d e f g =
          let q : c ≡ d = cc in
          let r : x ≡ e = cc in
          subst (λ y. IsStep connectivity y e) q (subst (λ y. IsStep connectivity c y) (sym is ∙ r) step)
      each_step (suc i) d e f g =
          let n : suc i + 1 ≡ suc (i + 1) = omega arith in
          p.each_step i d e f (subst (λ n. slice_get (c ∷ x ∷ path) n ≡ Some e) n g)

      once : (i n : ℕ) (d : ℕ × ℕ) → slice_get (c ∷ x ∷ path) i ≡ Some d → slice_get (c ∷ x ∷ path) n ≡ Some d → i ≡ n
      once zero zero d e f = refl
      once zero (suc n) d e f = let q : c ≡ d = cc in absurd (fresh n (subst (λ y. slice_get (x ∷ path) n ≡ Some y) (sym q) f))
      once (suc i) zero d e f = let q : c ≡ d = cc in absurd (fresh i (subst (λ y. slice_get (x ∷ path) i ≡ Some y) (sym q) e))
      once (suc i) (suc n) d e f = ap suc (p.once i n d e f)

-- a position of the path is on the trail: at place n or after it, or it is `here`, just before
-- that place
abbrev pub IsPassed : List Settled → Settled → ℕ → ℕ × ℕ → Type 0
IsPassed trail here n c = (j : ℕ) × (x : Settled) × (slice_get trail j ≡ Some x) × (x.at ≡ c) × ((n ≤ j) ⊎ ((c ≡ here.at) × (n ≤ j + 1)))

-- the walk back has come to the position `here`: what is left of it ends before place n
pub record IsFollowed (connectivity : Connectivity) (from : ℕ × ℕ) (costs : List (List (Option ℕ))) (trail : List Settled) (last here : Settled) (n : ℕ) (path : List (ℕ × ℕ)) : Type 0 where
  pub before : ComesBefore connectivity from trail n here
  pub cost : Holds costs here.at here.cost
  pub sum : ℕ
  pub leads : IsCostPath connectivity costs here.at last.at (reverse path) sum
  pub total : last.sum ≡ here.sum + sum
  pub passed : (i : ℕ) (c : ℕ × ℕ) → slice_get (reverse path) i ≡ Some c → IsPassed trail here n c

module _ (connectivity : Connectivity) (from : ℕ × ℕ) (costs : List (List (Option ℕ))) (trail : List Settled) (is_trail : IsTrail connectivity from costs trail) (last : Settled) where
  pub IsFollowed-start : slice_get trail (length trail - 1) ≡ Some last → 0 < length trail → IsFollowed connectivity from costs trail last last (length trail) (last.at ∷ [])
  IsFollowed-start e some =
      let cost = is_trail.cost (length trail - 1) last e in
      record {
        before = ⊎_elim (λ w. inl w) (λ w. let lt = w.2 in inr (w.0, w.1, omega arith, w.3, w.4, w.5)) (is_trail.before (length trail - 1) last e);
        cost = cost;
        sum = 0;
        leads = IsCostPath-one connectivity costs last.at last.cost cost;
        total = omega arith;
        passed = passed;
      }
    where
      passed : (i : ℕ) (c : ℕ × ℕ) → slice_get (last.at ∷ []) i ≡ Some c → IsPassed trail last (length trail) c
      passed zero c h = let q : last.at ≡ c = cc in (length trail - 1, last, e, q, inr (sym q, omega arith))
      passed (suc i) c h = absurd (cc)

  module _ (here : Settled) (n : ℕ) (path : List (ℕ × ℕ)) (f : IsFollowed connectivity from costs trail last here (suc n) path) (y : Settled) (at : slice_get trail n ≡ Some y) where
    -- of the path, all is after y, or is `here`
    behind : (i : ℕ) (c : ℕ × ℕ) → slice_get (reverse path) i ≡ Some c → (j : ℕ) × (x : Settled) × (slice_get trail j ≡ Some x) × (x.at ≡ c) × (n ≤ j) × ((suc n ≤ j) ⊎ (c ≡ here.at))
    behind i c h =
        let w = f.passed i c h in
        ⊎_elim (λ le. (w.0, w.1, w.2, w.3, omega arith, inl le)) (λ v. let le = v.1 in (w.0, w.1, w.2, w.3, omega arith, inr v.0)) w.4

    unseen : IsStep connectivity y.at here.at → (i : ℕ) → slice_get (reverse path) i ≡ Some y.at → ⊥
    unseen step i h =
        let w = behind i y.at h in
        ⊎_elim (λ le. let e : w.0 ≡ n = is_trail.once w.0 n w.1 y w.2 at w.3 in absurd (omega arith))
        (λ same. no_step connectivity here.at (subst (λ a. IsStep connectivity a here.at) same step)) w.5

    passed_found : (i : ℕ) (c : ℕ × ℕ) → slice_get (y.at ∷ reverse path) i ≡ Some c → IsPassed trail y n c
    passed_found zero c h = let q : y.at ≡ c = cc in (n, y, at, q, inl (omega arith))
    passed_found (suc i) c h = let w = behind i c h in (w.0, w.1, w.2, w.3, inl w.4)

    pub IsFollowed-found : IsStep connectivity y.at here.at → here.sum ≡ y.sum + here.cost → IsFollowed connectivity from costs trail last y n (path ++ y.at ∷ [])
    IsFollowed-found step is =
        let cost = is_trail.cost n y at in
        let total = f.total in
        record {
          before = is_trail.before n y at;
          cost = cost;
          sum = f.sum + here.cost;
          leads = subst (λ p. IsCostPath connectivity costs y.at last.at p (f.sum + here.cost)) (sym (reverse-append path (y.at ∷ [])))
              (IsCostPath-cons connectivity costs y.at here.at last.at (reverse path) f.sum y.cost here.cost cost step f.cost (unseen step) f.leads);
          total = omega arith;
          passed = subst (λ p. (i : ℕ) (c : ℕ × ℕ) → slice_get p i ≡ Some c → IsPassed trail y n c) (sym (reverse-append path (y.at ∷ []))) passed_found;
        }

    pub IsFollowed-past : ((IsStep connectivity y.at here.at × (here.sum ≡ y.sum + here.cost)) → ⊥) → IsFollowed connectivity from costs trail last here n path
    IsFollowed-past other =
        record {
          before = ⊎_elim (λ w. inl w)
              (λ w.
              ⊎_elim (λ e.
              let same : w.1 ≡ y = one_item trail n w.1 y (subst (λ i. slice_get trail i ≡ Some w.1) e w.3) at in
              absurd (other (subst (λ x. IsStep connectivity x.at here.at) same w.4, subst (λ x. here.sum ≡ x.sum + here.cost) same w.5)))
              (λ ne. let lt = w.2 in inr (w.0, w.1, omega arith, w.3, w.4, w.5))
              (cases_eq w.0 n))
              f.before;
          cost = f.cost;
          sum = f.sum;
          leads = f.leads;
          total = f.total;
          passed = λ i c h. let w = behind i c h in (w.0, w.1, w.2, w.3, inl w.4);
        }

-- what is kept of the trail while the search hasn't settled the goal
pub record IsKept (connectivity : Connectivity) (from : ℕ × ℕ) (costs u left : List (List (Option ℕ))) (goal : ℕ × ℕ) (trail : List Settled) : Type 0 where
  pub is_trail : IsTrail connectivity from costs trail
  pub all : IsTrailOf u left trail
  pub closed : (j : ℕ) (x : Settled) → slice_get trail j ≡ Some x → IsClosed left x.at
  pub not_yet : (m : ℕ) → Holds u goal m → IsClosed left goal → ⊥

-- at the start nothing is settled
end_cost : (connectivity : Connectivity) (costs : List (List (Option ℕ))) (n sum : ℕ) (a b : ℕ × ℕ) → CostWalk connectivity costs a b n sum → (k : ℕ) × Holds costs b k
end_cost connectivity costs zero sum a b w = w.2
end_cost connectivity costs (suc n) sum a b w = (w.2, w.5)

pub IsKept-start : (connectivity : Connectivity) (from : ℕ × ℕ) (costs u : List (List (Option ℕ))) (heap : List Entry) (goal : ℕ × ℕ) → IsCostSearch connectivity costs from u costs heap → IsKept connectivity from costs u costs goal []
IsKept-start connectivity from costs u heap goal s =
    record {
      is_trail = record { cost = λ j x e. absurd (cc); before = λ j x e. absurd (cc); once = λ i j x y e f q. absurd (cc) };
      all = λ a m h closed. absurd (nothing a m h closed);
      closed = λ j x e. absurd (cc);
      not_yet = λ m h closed. nothing goal m h closed;
    }
  where
    nothing : (a : ℕ × ℕ) (m : ℕ) → Holds u a m → IsClosed costs a → ⊥
    nothing a m h closed = let w = s.sound a m h in let k = end_cost connectivity costs w.0 m from a w.1 in closed k.0 k.1

-- the position x, which isn't there, comes to the trail
module _ (connectivity : Connectivity) (from : ℕ × ℕ) (costs u left : List (List (Option ℕ))) (goal : ℕ × ℕ) (trail : List Settled) (kept : IsKept connectivity from costs u left goal trail) (x : Settled) (k : ℕ) (is_left : Holds left x.at k) (cost : Holds costs x.at x.cost) (comes : Comes connectivity costs from u left x.at x.sum) where
  is_trail : IsTrail connectivity from costs trail
  is_trail = kept.is_trail

  fresh : (j : ℕ) (y : Settled) → slice_get trail j ≡ Some y → y.at ≡ x.at → ⊥
  fresh j y e q = kept.closed j y e k (subst (λ a. Holds left a k) (sym q) is_left)

  pub IsTrail-push : IsTrail connectivity from costs (trail ++ x ∷ [])
  IsTrail-push =
      record {
        cost = λ j y e.
            ⊎_elim (λ w. subst (λ z. Holds costs z.at z.cost) (sym w.1) cost) (λ e0. is_trail.cost j y e0) (at_push_fresh trail x j y e);
        before = λ j y e.
            ⊎_elim (λ w. subst (λ z. ComesBefore connectivity from (trail ++ x ∷ []) j z) (sym w.1) (subst (λ n. ComesBefore connectivity from (trail ++ x ∷ []) n x) (sym w.0) here))
            (λ e0. ⊎_elim (λ w. inl w) (λ w. inr (w.0, w.1, w.2, at_push trail x w.0 w.1 w.3, w.4, w.5)) (is_trail.before j y e0))
            (at_push_fresh trail x j y e);
        once = λ i j y z e f q.
            ⊎_elim (λ v. ⊎_elim (λ w. v.0 ∙ sym w.0) (λ f0. absurd (fresh j z f0 (sym q ∙ ap (λ s. s.at) v.1))) (at_push_fresh trail x j z f))
            (λ e0. ⊎_elim (λ w. absurd (fresh i y e0 (q ∙ ap (λ s. s.at) w.1))) (λ f0. is_trail.once i j y z e0 f0 q) (at_push_fresh trail x j z f))
            (at_push_fresh trail x i y e);
      }
    where
      here : ComesBefore connectivity from (trail ++ x ∷ []) (length trail) x
      here =
          ⊎_elim (λ w. inl w)
          (λ w.
          let v = kept.all w.0 w.1 w.3 w.4 in
          let k : w.2 ≡ x.cost = one_mark costs x.at w.2 x.cost w.6 cost in
          let sum : v.1.sum ≡ w.1 = v.4 in
          let is : x.sum ≡ w.1 + w.2 = w.7 in
          inr (v.0, v.1, slice_get_within trail v.0 v.1 v.2, at_push trail x v.0 v.1 v.2, subst (λ a. IsStep connectivity a x.at) (sym v.3) w.5, omega arith))
          comes

-- a step of the search: what is settled was settled before, or is x; what is left was left
pub IsKept-push : (connectivity : Connectivity) (from : ℕ × ℕ) (costs u left u' left' : List (List (Option ℕ))) (x : Settled) → ((a : ℕ × ℕ) (m : ℕ) → Holds u' a m → IsClosed left' a → ((a ≡ x.at) × (m ≡ x.sum)) ⊎ (Holds u a m × IsClosed left a)) → ((a : ℕ × ℕ) (k : ℕ) → Holds left' a k → Holds left a k) → (goal : ℕ × ℕ) (trail : List Settled) → IsKept connectivity from costs u left goal trail → IsTrail connectivity from costs (trail ++ x ∷ []) → IsClosed left' x.at → (goal ≡ x.at → ⊥) → IsKept connectivity from costs u' left' goal (trail ++ x ∷ [])
IsKept-push connectivity from costs u left u' left' x before fewer goal trail kept is_trail gone other =
    record {
      is_trail = is_trail;
      all = λ a m h c.
          ⊎_elim (λ e. (length trail, x, at_end trail x, sym e.0, sym e.1))
          (λ w. let v = kept.all a m w.0 w.1 in (v.0, v.1, at_push trail x v.0 v.1 v.2, v.3, v.4))
          (before a m h c);
      closed = λ j y e. ⊎_elim (λ v. subst (λ z. IsClosed left' z.at) (sym v.1) gone) (λ e0. λ i h. kept.closed j y e0 i (fewer y.at i h)) (at_push_fresh trail x j y e);
      not_yet = λ m h c. ⊎_elim (λ e. other e.0) (λ w. kept.not_yet m w.0 w.1) (before goal m h c);
    }
