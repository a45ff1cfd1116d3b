-- The search for the least costs: what holds after each step, and what that says at the end.
use Rattle.std.proofs.Common.{◌≡◌, ℕ, zero, suc, ◌+◌, ◌-◌, ◌*◌, ◌^◌, ◌<◌, ◌≤◌, ◌⊎◌, Option, None, Some, List, [], ◌∷◌, length, set, get_or, refl, sym, ◌∙◌, ap, subst, arith, inl, inr, ⊎_elim, IsPermutation, sum_by}
use Rattle.grid_paths.proofs.Common.{sum_by-set, IsPermutation-sym, slice_get_within, get_or_from_slice_get, row, row_count, col_count, cell, with_cell, IsTable, cell-with_same, cell-with_other, same_or_other, HaveOneSize, free, unreached, IsStep, Holds, CostWalk, IsLeastCost, HasLeastCosts, Entry, IsFirst, IsWaiting, HoldsUpTo, IsClosed, Relaxes, Comes, IsCostSearch, GridValue, entry, Enters, IsReady, IsNext, IsOver, IsSearching, IsFrontier, Puts, Reading, HasRoom, numbers, sums_of, waiting}
use Rattle.std.specs.declared.cmp.Ordering.{Ordering}
use Rattle.grid_base.proofs.Common.{InRange}
use Rattle.grid_near.specs.declared.steps.Connectivity.{Connectivity}
use Rattle.grid_paths.proofs.QueueLemmas.{unreached_cells}
use Rattle.grid_paths.proofs.SearchLemmas.{one_mark}
use Rattle.grid_paths.specs.declared.costs.Frontier.{Frontier}
use Rattle.grid_paths.specs.declared.costs.Settled.{Settled}
use Rattle.grid_paths.proofs.RelaxLemmas.{left_inside, same_size, Puts-whole}
use Rattle.grid_paths.proofs.WidthLemmas.{numbers-inside, numbers-table}
use Rattle.grid_paths.proofs.HeapLemmas as heaps

-- a position has a number, or none
pub left_or_closed : (t : List (List (Option ℕ))) (a : ℕ × ℕ) → ((k : ℕ) × Holds t a k) ⊎ IsClosed t a
left_or_closed t a = of (cell t a.0 a.1) refl
  where
    of : (o : Option (Option ℕ)) → cell t a.0 a.1 ≡ o → ((k : ℕ) × Holds t a k) ⊎ IsClosed t a
    of None e = inr (λ k h. let clash : ◌≡◌ {A = Option (Option ℕ)} None (Some (Some k)) = sym e ∙ h in cc)
    of (Some None) e = inr (λ k h. let clash : ◌≡◌ {A = Option (Option ℕ)} (Some None) (Some (Some k)) = sym e ∙ h in cc)
    of (Some (Some k)) e = inl (k, e)

-- the position p is closed in the table
module _ (left : List (List (Option ℕ))) (table : IsTable left) (p : ℕ × ℕ) (k : ℕ) (is_left : Holds left p k) where
  pub closed_there : IsClosed (with_cell left p.0 p.1 None) p
  closed_there j h =
      let clash : ◌≡◌ {A = Option (Option ℕ)} (Some None) (Some (Some j)) = sym (cell-with_same left table p.0 p.1 None (left_inside left table p k is_left).0 (left_inside left table p k is_left).1) ∙ h in
      cc

  pub closed_fewer : (a : ℕ × ℕ) (j : ℕ) → Holds (with_cell left p.0 p.1 None) a j → Holds left a j
  closed_fewer a j h =
      ⊎_elim (λ e. absurd (closed_there j (subst (λ x. Holds (with_cell left p.0 p.1 None) x j) e h)))
      (λ other. sym (cell-with_other left p.0 p.1 None a.0 a.1 other) ∙ h)
      (same_or_other a p)

  -- a position that was left is p, or still is
  pub closed_or_left : (a : ℕ × ℕ) (j : ℕ) → Holds left a j → (a ≡ p) ⊎ Holds (with_cell left p.0 p.1 None) a j
  closed_or_left a j h =
      ⊎_elim (λ e. inl e) (λ other. inr (cell-with_other left p.0 p.1 None a.0 a.1 other ∙ h)) (same_or_other a p)

  pub unreached-closed : unreached (with_cell left p.0 p.1 None) ≡ unreached left + 1
  unreached-closed =
      let xs = row left p.0 in
      let lt : p.1 < length xs = slice_get_within xs p.1 (Some k) is_left in
      let was : get_or xs p.1 None ≡ Some k = get_or_from_slice_get xs p.1 (Some k) None is_left in
      let one : free (get_or xs p.1 None) ≡ 0 = ap free was in
      let cells = sum_by-set free xs p.1 None None lt in
      let rows = sum_by-set (sum_by free) left p.0 (set xs p.1 None) [] (left_inside left table p k is_left).0 in
      omega arith

-- the entry x is taken from the heap
module _ (connectivity : Connectivity) (costs : List (List (Option ℕ))) (from : ℕ × ℕ) (u left : List (List (Option ℕ))) (heap : List Entry) (s : IsCostSearch connectivity costs from u left heap) (x : Entry) (rest : List Entry) (taken : IsPermutation heap (x ∷ rest)) where
  p : ℕ × ℕ
  p = x.0.1

  back : IsPermutation (x ∷ rest) heap
  back = IsPermutation-sym heap (x ∷ rest) taken

  first : IsWaiting heap x.0.0 x.0.1
  first = heaps.here x rest heap back

  still : (n : ℕ) (a : ℕ × ℕ) → IsWaiting rest n a → IsWaiting heap n a
  still n a w = heaps.kept x rest heap back n a w

  -- a waiting position that is left waits on
  others : (a : ℕ × ℕ) (n : ℕ) → IsWaiting heap n a → (x.0.1 ≡ a → ⊥) → IsWaiting rest n a
  others a n w ne = ⊎_elim (λ e. absurd (ne e.1)) (λ w. w) (heaps.added x rest heap back n a w)

  -- its position is settled
  pub IsCostSearch-stale : IsClosed left x.0.1 → IsCostSearch connectivity costs from u left rest
  IsCostSearch-stale closed =
      record {
        among = s.among;
        all = s.all;
        sound = s.sound;
        comes = s.comes;
        waits = λ a k m l h. others a m (s.waits a k m l h) (λ e. closed k (subst (λ y. Holds left y k) (sym e) l));
        numbered = λ n a w. s.numbered n a (still n a w);
        ordered = λ a m n b h c w. s.ordered a m n b h c (still n b w);
        relaxed = s.relaxed;
        start = s.start;
        bound = s.bound;
      }

  -- its position is left, and has this number
  module _ (least : IsFirst x rest) (k : ℕ) (is_left : Holds left x.0.1 k) where
    pub its_number : Holds u x.0.1 x.0.0
    its_number =
        let v = s.numbered x.0.0 x.0.1 first in
        let low : v.0 ≤ x.0.0 = v.2 in
        let w = s.waits x.0.1 k v.0 is_left v.1 in
        ⊎_elim (λ e. let is : x.0.0 ≡ v.0 = e.0 in subst (λ n. Holds u x.0.1 n) (sym is) v.1)
        (λ w. let up : x.0.0 ≤ v.0 = least v.0 x.0.1 w in
        let is : v.0 ≡ x.0.0 = omega arith in
        subst (λ n. Holds u x.0.1 n) is v.1)
        (heaps.added x rest heap back v.0 x.0.1 w)

    pub its_bound : x.0.0 ≤ 2 ^ 32 * unreached left
    its_bound = s.bound x.0.1 x.0.0 its_number

    -- and the positions around it are entered
    module _ (table : IsTable left) (u' : List (List (Option ℕ))) (heap' : List Entry) (r : Relaxes (IsStep connectivity x.0.1) (with_cell left (x.0.1).0 (x.0.1).1 None) x.0.0 u rest u' heap') where
      left' : List (List (Option ℕ))
      left' = with_cell left (x.0.1).0 (x.0.1).1 None

      fewer : (a : ℕ × ℕ) (j : ℕ) → Holds left' a j → Holds left a j
      unfolding left'
      fewer a j h = closed_fewer left table x.0.1 k is_left a j h

      lower : (a : ℕ × ℕ) (m : ℕ) → HoldsUpTo u a m → HoldsUpTo u' a m
      lower a m v =
          let w = r.lower a v.0 v.1 in
          let le : v.0 ≤ m = v.2 in
          let le2 : w.0 ≤ v.0 = w.2 in
          (w.0, w.1, omega arith)

      -- a number of a settled position is as it was
      same : (a : ℕ × ℕ) (m : ℕ) → Holds u' a m → IsClosed left' a → Holds u a m
      unfolding left'
      same a m h c = ⊎_elim (λ y. y) (λ f. absurd (c f.cost f.is_left)) (r.fresh a m h)

      -- a settled position is the one taken, or was settled before
      settled : (a : ℕ × ℕ) → IsClosed left' a → (a ≡ x.0.1) ⊎ IsClosed left a
      unfolding left'
      settled a c =
          ⊎_elim (λ l. ⊎_elim (λ e. inl e) (λ h. absurd (c l.0 h)) (closed_or_left left table x.0.1 k is_left a l.0 l.1))
          (λ none. inr none)
          (left_or_closed left a)

      still_settled : (a : ℕ × ℕ) (m : ℕ) → Holds u a m → IsClosed left' a → Holds u' a m
      unfolding left'
      still_settled a m h c =
          let v = r.lower a m h in
          subst (λ n. Holds u' a n) (one_mark u a v.0 m (same a v.0 v.1 c) h) v.1

      its : (a : ℕ × ℕ) (m : ℕ) → a ≡ x.0.1 → Holds u a m → m ≡ x.0.0
      its a m e h = one_mark u x.0.1 m x.0.0 (subst (λ y. Holds u y m) e h) its_number

      -- no settled number is greater
      most : (a : ℕ × ℕ) (m : ℕ) → Holds u a m → IsClosed left' a → m ≤ x.0.0
      unfolding left'
      most a m h c =
          ⊎_elim (λ e. let is : m ≡ x.0.0 = its a m e h in omega arith)
          (λ none. s.ordered a m x.0.0 x.0.1 h none first)
          (settled a c)

      among' : (a : ℕ × ℕ) (j : ℕ) → Holds left' a j → Holds costs a j
      unfolding left'
      among' a j h = s.among a j (fewer a j h)

      all' : (a : ℕ × ℕ) (j : ℕ) → Holds costs a j → Holds left' a j ⊎ ((m : ℕ) × Holds u' a m × IsClosed left' a)
      unfolding left'
      all' a j h =
          ⊎_elim (λ l.
          ⊎_elim (λ e.
          let v = r.lower x.0.1 x.0.0 its_number in
          inr (v.0, subst (λ y. Holds u' y v.0) (sym e) v.1, subst (λ y. IsClosed left' y) (sym e) (closed_there left table x.0.1 k is_left)))
          (λ h. inl h)
          (closed_or_left left table x.0.1 k is_left a j l))
          (λ c. let v = r.lower a c.0 c.1 in inr (v.0, v.1, λ n h. c.2 n (fewer a n h)))
          (s.all a j h)

      sound' : (a : ℕ × ℕ) (m : ℕ) → Holds u' a m → (n : ℕ) × CostWalk connectivity costs from a n m
      unfolding left'
      sound' a m h =
          ⊎_elim (λ y. s.sound a m y)
          (λ f.
          let v = s.sound x.0.1 x.0.0 its_number in
          (suc v.0, (x.0.1, x.0.0, f.cost, v.1, f.is_near, among' a f.cost f.is_left, f.is)))
          (r.fresh a m h)

      comes' : (a : ℕ × ℕ) (m : ℕ) → Holds u' a m → Comes connectivity costs from u' left' a m
      unfolding left'
      comes' a m h =
          ⊎_elim (λ y.
          ⊎_elim (λ e. inl e)
          (λ v.
          let c : IsClosed left' v.0 = λ n l. v.4 n (fewer v.0 n l) in
          inr (v.0, v.1, v.2, still_settled v.0 v.1 v.3 c, c, v.5, v.6, v.7))
          (s.comes a m y))
          (λ f.
          let c = closed_there left table x.0.1 k is_left in
          inr (x.0.1, x.0.0, f.cost, still_settled x.0.1 x.0.0 its_number c, c, f.is_near, among' a f.cost f.is_left, f.is))
          (r.fresh a m h)

      waits' : (a : ℕ × ℕ) (j m : ℕ) → Holds left' a j → Holds u' a m → IsWaiting heap' m a
      unfolding left'
      waits' a j m l h =
          ⊎_elim (λ y. r.kept m a (others a m (s.waits a j m (fewer a j l) y)
          (λ e. closed_there left table x.0.1 k is_left j (subst (λ y. Holds left' y j) (sym e) l))))
          (λ f. f.waits)
          (r.fresh a m h)

      numbered' : (n : ℕ) (a : ℕ × ℕ) → IsWaiting heap' n a → HoldsUpTo u' a n
      numbered' n a w =
          ⊎_elim (λ y. lower a n (s.numbered n a (still n a y))) (λ f. f.0) (r.added n a w)

      ordered' : (a : ℕ × ℕ) (m n : ℕ) (b : ℕ × ℕ) → Holds u' a m → IsClosed left' a → IsWaiting heap' n b → m ≤ n
      unfolding left'
      ordered' a m n b h c w =
          let up : m ≤ x.0.0 = most a m (same a m h c) c in
          ⊎_elim (λ y. let low : x.0.0 ≤ n = least n b y in omega arith)
          (λ f. let low : x.0.0 ≤ n = f.1 in omega arith)
          (r.added n b w)

      relaxed' : (a : ℕ × ℕ) (m : ℕ) (b : ℕ × ℕ) (j : ℕ) → Holds u' a m → IsClosed left' a → IsStep connectivity a b → Holds costs b j → HoldsUpTo u' b (m + j)
      unfolding left'
      relaxed' a m b j h c step cost =
          let was = same a m h c in
          ⊎_elim (λ e.
          let is : m ≡ x.0.0 = its a m e was in
          let step1 : IsStep connectivity x.0.1 b = subst (λ y. IsStep connectivity y b) e step in
          ⊎_elim (λ l. subst (λ n. HoldsUpTo u' b (n + j)) (sym is) (r.around b j step1 l))
          (λ d.
          let low : d.0 ≤ x.0.0 = most b d.0 (same b d.0 d.1 d.2) d.2 in
          (d.0, d.1, omega arith))
          (all' b j cost))
          (λ none. lower b (m + j) (s.relaxed a m b j was none step cost))
          (settled a c)

      bound' : (a : ℕ × ℕ) (m : ℕ) → Holds u' a m → m ≤ 2 ^ 32 * unreached left'
      unfolding left'
      bound' a m h =
          let more = unreached-closed left table x.0.1 k is_left in
          ⊎_elim (λ y. let le = s.bound a m y in omega arith)
          (λ f. let le = its_bound in let is = f.is in let few = f.few in omega arith)
          (r.fresh a m h)

      -- a settled number was settled before, or is the one taken
      pub settled_was : (a : ℕ × ℕ) (m : ℕ) → Holds u' a m → IsClosed (with_cell left (x.0.1).0 (x.0.1).1 None) a → ((a ≡ x.0.1) × (m ≡ x.0.0)) ⊎ (Holds u a m × IsClosed left a)
      unfolding left'
      settled_was a m h c =
          let was = same a m h c in
          ⊎_elim (λ e. inl (e, its a m e was)) (λ none. inr (was, none)) (settled a c)

      pub IsCostSearch-round : IsCostSearch connectivity costs from u' (with_cell left (x.0.1).0 (x.0.1).1 None) heap'
      unfolding left'
      IsCostSearch-round =
          record {
            among = among';
            all = all';
            sound = sound';
            comes = comes';
            waits = waits';
            numbered = numbered';
            ordered = ordered';
            relaxed = relaxed';
            start = λ j h. lower from 0 (s.start j h);
            bound = bound';
          }

-- a table of the size of another that has few cells
module _ (costs left : List (List (Option ℕ))) (table : IsTable left) (size : HaveOneSize left costs) where
  same_cells : row_count left * col_count left ≡ row_count costs * col_count costs
  same_cells = ap (λ n. n * col_count left) size.rows ∙ ap (λ n. row_count costs * n) size.cols

  pub few_left : unreached left ≤ row_count costs * col_count costs
  few_left = let le = unreached_cells left table in let is = same_cells in omega arith

-- the position that comes first from the heap, if it is left, has the least number
module _ (connectivity : Connectivity) (costs : List (List (Option ℕ))) (from : ℕ × ℕ) (u left : List (List (Option ℕ))) (heap : List Entry) (s : IsCostSearch connectivity costs from u left heap) (x : Entry) (rest : List Entry) (taken : IsPermutation heap (x ∷ rest)) (least : IsFirst x rest) where
  no_less : (n : ℕ) (a : ℕ × ℕ) → IsWaiting heap n a → x.0.0 ≤ n
  no_less n a w =
      ⊎_elim (λ e. let is : x.0.0 ≡ n = e.0 in omega arith) (λ w. least n a w)
      (heaps.added x rest heap (IsPermutation-sym heap (x ∷ rest) taken) n a w)

  -- a walk costs no less than x, or its end has a number already
  known : (n sum : ℕ) (b : ℕ × ℕ) → CostWalk connectivity costs from b n sum → HoldsUpTo u b sum ⊎ (x.0.0 ≤ sum)
  known zero sum b w =
      let v = s.start w.2.0 (subst (λ x. Holds costs x w.2.0) (sym w.0) w.2.1) in
      let le : v.0 ≤ 0 = v.2 in
      inl (v.0, subst (λ x. Holds u x v.0) w.0 v.1, omega arith)
  known (suc n) sum b w =
      let is : sum ≡ w.1 + w.2 = w.6 in
      ⊎_elim (λ v.
      let le : v.0 ≤ w.1 = v.2 in
      ⊎_elim (λ l. let low = no_less v.0 w.0 (s.waits w.0 l.0 v.0 l.1 v.1) in inr (omega arith))
      (λ closed.
      let y = s.relaxed w.0 v.0 b w.2 v.1 closed w.4 w.5 in
      let le2 : y.0 ≤ v.0 + w.2 = y.2 in
      inl (y.0, y.1, omega arith))
      (left_or_closed left w.0))
      (λ low. inr (omega arith))
      (known n w.1 w.0 w.3)

  pub IsLeastCost-first : (k : ℕ) → Holds left x.0.1 k → IsLeastCost connectivity costs from x.0.1 x.0.0
  IsLeastCost-first k is_left =
      let its = its_number connectivity costs from u left heap s x rest taken least k is_left in
      record {
        walk = s.sound x.0.1 x.0.0 its;
        least = λ n sum w.
            ⊎_elim (λ v.
            let e : x.0.0 ≡ v.0 = one_mark u x.0.1 x.0.0 v.0 its v.1 in
            let le : v.0 ≤ sum = v.2 in
            omega arith)
            (λ low. low)
            (known n sum x.0.1 w);
      }

-- at the end nothing waits
module _ (connectivity : Connectivity) (costs : List (List (Option ℕ))) (from : ℕ × ℕ) (u left : List (List (Option ℕ))) (s : IsCostSearch connectivity costs from u left []) where
  nothing : (n : ℕ) (a : ℕ × ℕ) → IsWaiting [] n a → ⊥
  nothing n a w = let lt : w.1.0 < 0 = w.1.1 in omega arith

  complete : (n sum : ℕ) (b : ℕ × ℕ) → CostWalk connectivity costs from b n sum → HoldsUpTo u b sum
  complete zero sum b w =
      let v = s.start w.2.0 (subst (λ x. Holds costs x w.2.0) (sym w.0) w.2.1) in
      let le : v.0 ≤ 0 = v.2 in
      (v.0, subst (λ x. Holds u x v.0) w.0 v.1, omega arith)
  complete (suc n) sum b w =
      let v = complete n w.1 w.0 w.3 in
      let le : v.0 ≤ w.1 = v.2 in
      let is : sum ≡ w.1 + w.2 = w.6 in
      ⊎_elim (λ l. absurd (nothing v.0 w.0 (s.waits w.0 l.0 v.0 l.1 v.1)))
      (λ closed.
      let y = s.relaxed w.0 v.0 b w.2 v.1 closed w.4 w.5 in
      let le2 : y.0 ≤ v.0 + w.2 = y.2 in
      (y.0, y.1, omega arith))
      (left_or_closed left w.0)

  pub no_way : (b : ℕ × ℕ) → ((m : ℕ) → Holds u b m → IsClosed left b → ⊥) → (n sum : ℕ) → CostWalk connectivity costs from b n sum → ⊥
  no_way b not_yet n sum w =
      let v = complete n sum b w in
      ⊎_elim (λ l. nothing v.0 b (s.waits b l.0 v.0 l.1 v.1)) (λ closed. not_yet v.0 v.1 closed) (left_or_closed left b)

  pub HasLeastCosts-end : HasLeastCosts connectivity costs from u
  HasLeastCosts-end =
      record {
        found = λ at n sum w. let v = complete n sum at w in (v.0, v.1);
        least = λ at k h. record {
          walk = s.sound at k h;
          least = λ n sum w.
              let v = complete n sum at w in
              let e : k ≡ v.0 = one_mark u at k v.0 h v.1 in
              let le : v.0 ≤ sum = v.2 in
              omega arith;
        };
      }

-- at the start nothing has a number, or the first position alone
module _ (connectivity : Connectivity) (costs : List (List (Option ℕ))) (from : ℕ × ℕ) (u : List (List (Option ℕ))) (empty : (a : ℕ × ℕ) (m : ℕ) → Holds u a m → ⊥) where
  pub IsCostSearch-closed : IsClosed costs from → IsCostSearch connectivity costs from u costs []
  IsCostSearch-closed closed =
      record {
        among = λ a k h. h;
        all = λ a k h. inl h;
        sound = λ a m h. absurd (empty a m h);
        comes = λ a m h. absurd (empty a m h);
        waits = λ a k m l h. absurd (empty a m h);
        numbered = λ n a w. absurd (let lt : w.1.0 < 0 = w.1.1 in omega arith);
        ordered = λ a m n b h. absurd (empty a m h);
        relaxed = λ a m b k h. absurd (empty a m h);
        start = λ k h. absurd (closed k h);
        bound = λ a m h. absurd (empty a m h);
      }

  module _ (table : IsTable u) (inside : InRange u from.0 from.1) (k : ℕ) (cost : Holds costs from k) (x : Entry) (heap : List Entry) (is_sum : x.0.0 ≡ 0) (is_at : x.0.1 ≡ from) (before : List Entry) (nothing_before : before ≡ []) (put : IsPermutation (x ∷ before) heap) where
    pushed : IsPermutation (x ∷ []) heap
    pushed = subst (λ h. IsPermutation (x ∷ h) heap) nothing_before put

    t : List (List (Option ℕ))
    t = with_cell u from.0 from.1 (Some 0)

    there : Holds t from 0
    unfolding t
    there = cell-with_same u table from.0 from.1 (Some 0) inside.0 inside.1

    only : (a : ℕ × ℕ) (m : ℕ) → Holds t a m → (a ≡ from) × (m ≡ 0)
    unfolding t
    only a m h =
        ⊎_elim (λ e. (e, one_mark t from m 0 (subst (λ y. Holds t y m) e h) there))
        (λ other. absurd (empty a m (sym (cell-with_other u from.0 from.1 (Some 0) a.0 a.1 other) ∙ h)))
        (same_or_other a from)

    begun : IsWaiting heap 0 from
    begun = subst (λ n. IsWaiting heap n from) is_sum (subst (λ a. IsWaiting heap x.0.0 a) is_at (heaps.here x [] heap pushed))

    begins : (a : ℕ × ℕ) (m : ℕ) → Holds t a m → IsWaiting heap m a
    begins a m h =
        let o = only a m h in
        subst (λ n. IsWaiting heap n a) (sym o.1) (subst (λ y. IsWaiting heap 0 y) (sym o.0) begun)

    walk : (a : ℕ × ℕ) (m : ℕ) → Holds t a m → (n : ℕ) × CostWalk connectivity costs from a n m
    walk a m h =
        let o = only a m h in
        (0, (sym o.0, o.1, (k, subst (λ y. Holds costs y k) (sym o.0) cost)))

    known_there : (n : ℕ) (a : ℕ × ℕ) → IsWaiting heap n a → HoldsUpTo t a n
    known_there n a w =
        ⊎_elim (λ e. (0, subst (λ y. Holds t y 0) (sym is_at ∙ e.1) there, omega arith))
        (λ y. absurd (let lt : y.1.0 < 0 = y.1.1 in omega arith))
        (heaps.added x [] heap pushed n a w)

    begun_at : IsCostSearch connectivity costs from t costs heap
    begun_at =
        record {
          among = λ a k h. h;
          all = λ a k h. inl h;
          sound = walk;
          comes = λ a m h. inl (only a m h);
          waits = λ a j m l h. begins a m h;
          numbered = known_there;
          ordered = λ a m n b h c w. let o = (only a m h).1 in omega arith;
          relaxed = λ a m b j h c. absurd (c k (subst (λ y. Holds costs y k) (sym (only a m h).0) cost));
          start = λ j h. (0, there, omega arith);
          bound = λ a m h. let o = (only a m h).1 in omega arith;
        }

    pub IsCostSearch-begun : (u' : List (List (Option ℕ))) → u' ≡ with_cell u from.0 from.1 (Some 0) → IsCostSearch connectivity costs from u' costs heap
    unfolding t
    IsCostSearch-begun u' e = subst (λ y. IsCostSearch connectivity costs from y costs heap) (sym e) begun_at

-- the search begins
module _ {N A : Type 0} {cmp : N → N → Ordering} {w : Reading N} (connectivity : Connectivity) (costs : GridValue (Option ℕ)) (from : ℕ × ℕ) (f : Frontier N A) (whole : IsFrontier cmp w f) (room : HasRoom w costs.rows) (is_left : f.left ≡ costs) (order : f.sums.order ≡ costs.order) (empty : (a : ℕ × ℕ) (m : ℕ) → Holds (sums_of w f) a m → ⊥) (nothing : waiting w f ≡ []) where
  size : HaveOneSize f.left.rows costs.rows
  size = record { rows = ap (λ l. row_count l.rows) is_left; cols = ap (λ l. col_count l.rows) is_left }

  pub IsSearching-closed : IsClosed costs.rows from → IsSearching cmp w connectivity costs from f
  IsSearching-closed closed =
      record {
        order = order;
        left = size;
        room = room;
        whole = whole;
        search = subst (λ h. IsCostSearch connectivity costs.rows from (sums_of w f) f.left.rows h) (sym nothing)
            (subst (λ l. IsCostSearch connectivity costs.rows from (sums_of w f) l.rows []) (sym is_left)
            (IsCostSearch-closed connectivity costs.rows from (sums_of w f) empty closed));
      }

  pub IsSearching-begun : (g : Frontier N A) (k : ℕ) → Holds costs.rows from k → Puts cmp w from 0 f g → IsSearching cmp w connectivity costs from g
  IsSearching-begun g k cost p =
      let here : Holds f.left.rows from k = subst (λ l. Holds l.rows from k) (sym is_left) cost in
      let inside = same_size f.left.rows f.sums.rows f.left.table whole.size.rows whole.size.cols from k here in
      let left = p.left ∙ is_left in
      record {
        order = p.same.order ∙ order;
        left = record { rows = ap (λ l. row_count l.rows) left; cols = ap (λ l. col_count l.rows) left };
        room = room;
        whole = Puts-whole whole p;
        search = subst (λ l. IsCostSearch connectivity costs.rows from (sums_of w g) l.rows (waiting w g)) (sym left)
            (IsCostSearch-begun connectivity costs.rows from (sums_of w f) empty (numbers-table w f.sums.rows f.sums.table) (numbers-inside w f.sums.rows from inside) k cost
            (record { 0 = (0, from) }) (waiting w g) refl refl (waiting w f) nothing p.waits (sums_of w g) p.sums);
      }

-- the position x is settled
module _ {N A : Type 0} {cmp : N → N → Ordering} {w : Reading N} {connectivity : Connectivity} {costs : GridValue (Option ℕ)} {from : ℕ × ℕ} {f f' : Frontier N A} (s : IsSearching cmp w connectivity costs from f) {x : Settled} (n : IsNext cmp w f f' x) where
  found : IsCostSearch connectivity costs.rows from (sums_of w f) f.left.rows n.heap
  found = n.enough connectivity costs.rows from s.search

  pub IsNext-number : Holds (sums_of w f) x.at x.sum
  IsNext-number =
      its_number connectivity costs.rows from (sums_of w f) f.left.rows n.heap found (entry x) (waiting w f') n.taken n.first x.cost n.is_left

  pub IsNext-comes : Holds costs.rows x.at x.cost × Comes connectivity costs.rows from (sums_of w f) f.left.rows x.at x.sum
  IsNext-comes = (found.among x.at x.cost n.is_left, found.comes x.at x.sum IsNext-number)

  pub IsNext-least : IsLeastCost connectivity costs.rows from x.at x.sum
  IsNext-least =
      IsLeastCost-first connectivity costs.rows from (sums_of w f) f.left.rows n.heap found (entry x) (waiting w f') n.taken n.first x.cost n.is_left

  pub IsNext-ready : IsReady cmp w f' x
  IsNext-ready =
      let i = left_inside f.left.rows f.left.table x.at x.cost n.is_left in
      let lr = i.0 in
      let lc = i.1 in
      let rows = n.size.rows in
      let cols = n.size.cols in
      let lr1 : x.at.0 < row_count f'.left.rows = omega arith in
      let lc1 : x.at.1 < col_count f'.left.rows = omega arith in
      let bound = found.bound x.at x.sum IsNext-number in
      let cells = few_left costs.rows f.left.rows f.left.table s.left in
      let few = costs.fits.cells in
      let room = s.room.sums in
      record { inside = (lr1, lc1); small = omega arith; below = omega arith; whole = n.whole }

  -- and the positions around it are entered
  module _ {g : Frontier N A} (e : Enters cmp w (IsStep connectivity x.at) x.sum f' g) where
    left_is : g.left.rows ≡ with_cell f.left.rows x.at.0 x.at.1 None
    left_is = ap (λ l. l.rows) e.left ∙ n.left

    relaxes : Relaxes (IsStep connectivity x.at) (with_cell f.left.rows x.at.0 x.at.1 None) x.sum (sums_of w f) (waiting w f') (sums_of w g) (waiting w g)
    relaxes =
        subst (λ l. Relaxes (IsStep connectivity x.at) l x.sum (sums_of w f) (waiting w f') (sums_of w g) (waiting w g)) n.left
        (subst (λ u. Relaxes (IsStep connectivity x.at) f'.left.rows x.sum (numbers w u.rows) (waiting w f') (sums_of w g) (waiting w g)) n.sums e.relaxes)

    round : IsCostSearch connectivity costs.rows from (sums_of w g) (with_cell f.left.rows x.at.0 x.at.1 None) (waiting w g)
    round =
        IsCostSearch-round connectivity costs.rows from (sums_of w f) f.left.rows n.heap found (entry x) (waiting w f') n.taken n.first x.cost n.is_left f.left.table (sums_of w g) (waiting w g) relaxes

    pub IsSearching-next : IsSearching cmp w connectivity costs from g
    IsSearching-next =
        record {
          order = e.order ∙ (ap (λ u. u.order) n.sums ∙ s.order);
          left = record {
            rows = ap (λ l. row_count l.rows) e.left ∙ (n.size.rows ∙ s.left.rows);
            cols = ap (λ l. col_count l.rows) e.left ∙ (n.size.cols ∙ s.left.cols);
          };
          room = s.room;
          whole = e.whole;
          search = subst (λ l. IsCostSearch connectivity costs.rows from (sums_of w g) l (waiting w g)) (sym left_is) round;
        }

    pub IsSearching-smaller : row_count costs.rows * col_count costs.rows - unreached g.left.rows < row_count costs.rows * col_count costs.rows - unreached f.left.rows
    IsSearching-smaller =
        let more = unreached-closed f.left.rows f.left.table x.at x.cost n.is_left in
        let is = ap unreached left_is in
        let few = few_left costs.rows g.left.rows g.left.table IsSearching-next.left in
        omega arith

    -- a settled number was settled before, or is that of x
    pub settled_before : (a : ℕ × ℕ) (m : ℕ) → Holds (sums_of w g) a m → IsClosed g.left.rows a → ((a ≡ x.at) × (m ≡ x.sum)) ⊎ (Holds (sums_of w f) a m × IsClosed f.left.rows a)
    settled_before a m h c =
        settled_was connectivity costs.rows from (sums_of w f) f.left.rows n.heap found (entry x) (waiting w f') n.taken n.first x.cost n.is_left f.left.table (sums_of w g) (waiting w g) relaxes a m h
        (subst (λ l. IsClosed l a) left_is c)

    -- what is left was left, and x is not
    pub settled_fewer : (a : ℕ × ℕ) (k : ℕ) → Holds g.left.rows a k → Holds f.left.rows a k
    settled_fewer a k h = closed_fewer f.left.rows f.left.table x.at x.cost n.is_left a k (subst (λ l. Holds l a k) left_is h)

    pub settled_there : IsClosed g.left.rows x.at
    settled_there = subst (λ l. IsClosed l x.at) (sym left_is) (closed_there f.left.rows f.left.table x.at x.cost n.is_left)

-- at the end
module _ {N A : Type 0} {cmp : N → N → Ordering} {w : Reading N} {connectivity : Connectivity} {costs : GridValue (Option ℕ)} {from : ℕ × ℕ} {f f' : Frontier N A} (s : IsSearching cmp w connectivity costs from f) (over : IsOver w f f') where
  pub IsOver-least : HasLeastCosts connectivity costs.rows from (sums_of w f')
  IsOver-least =
      subst (λ u. HasLeastCosts connectivity costs.rows from (numbers w u.rows)) (sym over.sums)
      (HasLeastCosts-end connectivity costs.rows from (sums_of w f) f.left.rows (over.enough connectivity costs.rows from s.search))

  pub IsOver-no_way : (b : ℕ × ℕ) → ((m : ℕ) → Holds (sums_of w f) b m → IsClosed f.left.rows b → ⊥) → (n sum : ℕ) → CostWalk connectivity costs.rows from b n sum → ⊥
  IsOver-no_way = no_way connectivity costs.rows from (sums_of w f) f.left.rows (over.enough connectivity costs.rows from s.search)
