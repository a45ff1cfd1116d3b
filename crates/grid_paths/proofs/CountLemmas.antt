-- The regions before a position, row by row: the next one, the end of a row, and what holds at the end.
use Rattle.std.proofs.Common.{◌≡◌, ℕ, zero, suc, ◌+◌, ◌<◌, ◌≤◌, ◌⊎◌, Bool, true, Option, None, Some, List, refl, sym, ◌∙◌, ap, subst, arith, inl, inr, ⊎_elim, option_map, unwrap_or}
use Rattle.grid_paths.proofs.Common.{IsEquivalence, cases_lt, row_count, col_count, cell, tabulate, IsTable, IsOpen, IsStep, Walk, alike, IsMarked, HaveOneSize, AreJoined, AreRegions, ComesBefore, AreNumbers, IsNumbered, AreEqual, AreParts, IsScanned, cell_in_range}
use Rattle.grid_base.proofs.Common.{InRange}
use Rattle.grid_near.specs.declared.steps.Connectivity.{Connectivity}
use Rattle.grid_paths.proofs.SearchLemmas.{one_mark}
use Rattle.grid_paths.proofs.AroundLemmas.{same_pair}
use Rattle.grid_paths.proofs.PathLemmas.{step_back, walk_back, open_end}
use Rattle.grid_paths.proofs.AlikeLemmas.{open_alike, alike_open, mapped-cell}

-- open positions of one table that are open in another
walk_map : (connectivity : Connectivity) (F G : List (List Bool)) → ((a : ℕ × ℕ) → IsOpen F a → IsOpen G a) → (n : ℕ) (a b : ℕ × ℕ) → Walk connectivity F a b n → Walk connectivity G a b n
walk_map connectivity F G h zero a b w = (w.0, h b w.1)
walk_map connectivity F G h (suc n) a b w = (w.0, walk_map connectivity F G h n a w.0 w.1, w.2, h b w.3)

-- one walk and then another
pub walk_append : (connectivity : Connectivity) (F : List (List Bool)) (m n : ℕ) (a b c : ℕ × ℕ) → Walk connectivity F a b m → Walk connectivity F b c n → (k : ℕ) × Walk connectivity F a c k
walk_append connectivity F m zero a b c v w = (m, subst (λ x. Walk connectivity F a x m) w.0 v)
walk_append connectivity F m (suc n) a b c v w = let y = walk_append connectivity F m n a b w.0 v w.1 in (suc y.0, (w.0, y.1, w.2, w.3))

module _ (connectivity : Connectivity) {X : Type 0} (eq : X → X → Bool) (t : List (List X)) (table : IsTable t) (e : IsEquivalence eq) where
  turn : (x y : X) → eq y x ≡ true → eq x y ≡ true
  turn x y p = e.symm x y ∙ p

  join : (x y z : X) → eq z y ≡ true → eq y x ≡ true → eq z x ≡ true
  join x y z p q = e.congr z y x p ∙ q

  equal_back : (a b : ℕ × ℕ) → AreEqual eq t a b → AreEqual eq t b a
  equal_back a b h =
      record { x = h.y; y = h.x; first = h.second; second = h.first; equal = turn h.x h.y h.equal }

  open_equal : (x : X) (a b : ℕ × ℕ) → IsOpen (alike eq x t) a → AreEqual eq t a b → IsOpen (alike eq x t) b
  open_equal x a b o h =
      let v = alike_open eq x t table a o in
      let both : Some v.0 ≡ Some h.x = sym v.1 ∙ h.first in
      let is : v.0 ≡ h.x = cc in
      let p : eq h.x x ≡ true = subst (λ y. eq y x ≡ true) is v.2 in
      open_alike eq x t table b h.y h.second (join x h.x h.y h.equal p)

  both_open : (x : X) (a b : ℕ × ℕ) → IsOpen (alike eq x t) a → IsOpen (alike eq x t) b → AreEqual eq t a b
  both_open x a b o p =
      let v = alike_open eq x t table a o in
      let w = alike_open eq x t table b p in
      record { x = v.0; y = w.0; first = v.1; second = w.1; equal = join v.0 x w.0 w.2 (turn x v.0 v.2) }

  reopen : (x y : X) → eq y x ≡ true → (a : ℕ × ℕ) → IsOpen (alike eq x t) a → IsOpen (alike eq y t) a
  reopen x y p a o =
      let v = alike_open eq x t table a o in
      open_alike eq y t table a v.0 v.1 (join y x v.0 v.2 (turn x y p))

  -- two positions that walks from one lead to are joined
  joined : (x : X) (p a b : ℕ × ℕ) (m n : ℕ) → Walk connectivity (alike eq x t) p a m → Walk connectivity (alike eq x t) p b n → AreJoined connectivity eq t a b
  joined x p a b m n v w =
      let F = alike eq x t in
      let y = alike_open eq x t table a (open_end connectivity F m p a v) in
      let k = walk_append connectivity F m n a p b (walk_back connectivity F m p a v) w in
      (y.0, k.0, y.1, walk_map connectivity F (alike eq y.0 t) (reopen x y.0 y.2) k.0 a b k.1)

  -- the numbers are the same along a walk over equal cells
  along : (u : List (List (Option ℕ))) → AreParts connectivity eq t u → (x : X) (k n : ℕ) (a b : ℕ × ℕ) → Walk connectivity (alike eq x t) a b n → IsMarked u a k → IsMarked u b k
  along u P x k zero a b w h = subst (λ y. IsMarked u y k) w.0 h
  along u P x k (suc n) a b w h =
      P.closed w.0 b k w.2 (both_open x w.0 b (open_end connectivity (alike eq x t) n a w.0 w.1) w.3) (along u P x k n a w.0 w.1 h)

  module _ (u u' : List (List (Option ℕ))) (k : ℕ) (p : ℕ × ℕ) (x : X) (at : cell t p.0 p.1 ≡ Some x) (P : AreParts connectivity eq t u) (low : (a : ℕ × ℕ) (m : ℕ) → IsMarked u a m → m < k)
      (n : IsNumbered connectivity (alike eq x t) p k u u') where
    o : IsOpen (alike eq x t) p
    o = open_alike eq x t table p x at (e.refl x)

    closed : (a b : ℕ × ℕ) (m : ℕ) → IsStep connectivity a b → AreEqual eq t a b → IsMarked u' a m → IsMarked u' b m
    closed a b m beside equal h =
        ⊎_elim (λ h0. n.kept b m (P.closed a b m beside equal h0))
        (λ is.
        let h1 : IsMarked u' a k = subst (λ y. IsMarked u' a y) is h in
        let w = n.walk a h1 o in
        let ob = open_equal x a b (open_end connectivity (alike eq x t) w.0 p a w.1) equal in
        let v = n.spread a b h1 beside ob in
        ⊎_elim (λ old.
        let back : IsMarked u' a v.0 = n.kept a v.0 (P.closed b a v.0 (step_back connectivity a b beside) (equal_back a b equal) old) in
        let same : v.0 ≡ k = one_mark u' a v.0 k back h1 in
        let lt : v.0 < k = low b v.0 old in
        absurd (omega arith))
        (λ new. subst (λ y. IsMarked u' b y) (new ∙ sym is) v.1)
        (n.is b v.0 v.1))
        (n.is a m h)

    one : (a b : ℕ × ℕ) (m : ℕ) → IsMarked u' a m → IsMarked u' b m → AreJoined connectivity eq t a b
    one a b m ha hb =
        ⊎_elim (λ ha0.
        ⊎_elim (λ hb0. P.one a b m ha0 hb0)
        (λ is. let m_is : m ≡ k = is in let lt : m < k = low a m ha0 in absurd (omega arith))
        (n.is b m hb))
        (λ is.
        let v = n.walk a (subst (λ y. IsMarked u' a y) is ha) o in
        let w = n.walk b (subst (λ y. IsMarked u' b y) is hb) o in
        joined x p a b v.0 w.0 v.1 w.1)
        (n.is a m ha)

    pub AreParts-numbered : AreParts connectivity eq t u'
    AreParts-numbered = record { closed = closed; one = one }

-- positions in row order
before_next : (b p : ℕ × ℕ) → ComesBefore b p → ComesBefore b (p.0, p.1 + 1)
before_next b p h = ⊎_elim (λ l. inl l) (λ w. let l = w.1 in let r : b.1 < p.1 + 1 = omega arith in inr (w.0, r)) h

before_cases : (a p : ℕ × ℕ) → ComesBefore a (p.0, p.1 + 1) → ComesBefore a p ⊎ (a ≡ p)
before_cases a p h =
    ⊎_elim (λ l. inl (inl l))
    (λ w.
    ⊎_elim (λ l. inl (inr (w.0, l)))
    (λ ge. let l : a.1 < p.1 + 1 = w.1 in let is : a.1 ≡ p.1 = omega arith in inr (same_pair a p w.0 is))
    (cases_lt a.1 p.1))
    h

not_before : (a p : ℕ × ℕ) → ComesBefore a p ⊎ ((b : ℕ × ℕ) → ComesBefore b p → ComesBefore b a)
not_before a p =
    ⊎_elim (λ lt. inl (inl lt))
    (λ ge.
    ⊎_elim (λ lt.
    inr (λ b h.
    let r : b.0 < a.0 = ⊎_elim (λ l. omega arith) (λ w. let e : b.0 ≡ p.0 = w.0 in omega arith) h in
    inl r))
    (λ ge2.
    let same : a.0 ≡ p.0 = omega arith in
    ⊎_elim (λ lc. inl (inr (same, lc)))
    (λ gc.
    inr (λ b h.
    ⊎_elim (λ l. let r : b.0 < a.0 = omega arith in inl r)
    (λ w.
    let e : b.0 ≡ p.0 = w.0 in
    let l : b.1 < p.1 = w.1 in
    let r : b.0 ≡ a.0 = omega arith in
    let q : b.1 < a.1 = omega arith in
    inr (r, q))
    h))
    (cases_lt a.1 p.1))
    (cases_lt p.0 a.0))
    (cases_lt a.0 p.0)

module _ (connectivity : Connectivity) {X : Type 0} (eq : X → X → Bool) (t : List (List X)) where
  -- no position is before the first
  pub IsScanned-start : (u : List (List (Option ℕ))) → ((a : ℕ × ℕ) (m : ℕ) → IsMarked u a m → ⊥) → IsScanned connectivity eq t u 0 (0, 0)
  IsScanned-start u none =
      record {
        below = λ a m h. absurd (none a m h);
        used = λ k lt. absurd (omega (arith, lt));
        seen = λ a inside h. absurd (nowhere a h);
        ordered = λ a k j h. absurd (none a k h);
        parts = λ e. record { closed = λ a b m beside equal h. absurd (none a m h); one = λ a b m h. absurd (none a m h) };
      }
    where
      nowhere : (a : ℕ × ℕ) → ComesBefore a (0, 0) → ⊥
      nowhere a h = ⊎_elim (λ l. omega (arith, l)) (λ w. let l = w.1 in omega (arith, l)) h

  -- a position that has a number
  pub IsScanned-marked : (u : List (List (Option ℕ))) (count : ℕ) (p : ℕ × ℕ) (m : ℕ) → IsMarked u p m → IsScanned connectivity eq t u count p → IsScanned connectivity eq t u count (p.0, p.1 + 1)
  IsScanned-marked u count p m mark s =
      record {
        below = s.below;
        used = λ k lt. let v = s.used k lt in (v.0, before_next v.0 p v.1, v.2);
        seen = λ a inside h.
            ⊎_elim (λ h0. s.seen a inside h0) (λ is. (m, subst (λ y. IsMarked u y m) (sym is) mark)) (before_cases a p h);
        ordered = s.ordered;
        parts = s.parts;
      }

  -- the end of a row
  pub IsScanned-row : (u : List (List (Option ℕ))) (count r c : ℕ) → col_count t ≤ c → IsScanned connectivity eq t u count (r, c) → IsScanned connectivity eq t u count (r + 1, 0)
  IsScanned-row u count r c le s =
      record {
        below = s.below;
        used = λ k lt. let v = s.used k lt in (v.0, down v.0 v.1, v.2);
        seen = λ a inside h. s.seen a inside (up a inside h);
        ordered = s.ordered;
        parts = s.parts;
      }
    where
      down : (b : ℕ × ℕ) → ComesBefore b (r, c) → ComesBefore b (r + 1, 0)
      down b h =
          let l : b.0 < r + 1 = ⊎_elim (λ l. omega arith) (λ w. let e : b.0 ≡ r = w.0 in omega arith) h in inl l

      up : (a : ℕ × ℕ) → InRange t a.0 a.1 → ComesBefore a (r + 1, 0) → ComesBefore a (r, c)
      up a inside h =
          let lc : a.1 < col_count t = inside.1 in
          let l : a.0 < r + 1 = ⊎_elim (λ l. l) (λ w. let no_col : a.1 < 0 = w.1 in absurd (omega arith)) h in
          ⊎_elim (λ lt. inl lt) (λ ge. let e : a.0 ≡ r = omega arith in let q : a.1 < c = omega arith in inr (e, q)) (cases_lt a.0 r)

  -- a position that had none, whose region is numbered
  module _ (table : IsTable t) (u u' : List (List (Option ℕ))) (table' : IsTable u') (size : HaveOneSize u' t) (k : ℕ) (p : ℕ × ℕ) (x : X) (at : cell t p.0 p.1 ≡ Some x) (s : IsScanned connectivity eq t u k p)
      (n : IsNumbered connectivity (alike eq x t) p k u u') where
    below' : (a : ℕ × ℕ) (m : ℕ) → IsMarked u' a m → m < k + 1
    below' a m h =
        ⊎_elim (λ h0. let lt = s.below a m h0 in omega arith) (λ is. let e : m ≡ k = is in omega arith) (n.is a m h)

    used' : (j : ℕ) → j < k + 1 → (b : ℕ × ℕ) × ComesBefore b (p.0, p.1 + 1) × IsMarked u' b j
    used' j lt =
        ⊎_elim (λ l. let v = s.used j l in (v.0, before_next v.0 p v.1, n.kept v.0 j v.2))
        (λ ge.
        let e : k ≡ j = omega arith in
        let l : p.1 < p.1 + 1 = omega arith in
        (p, inr (refl, l), subst (λ y. IsMarked u' p y) e n.here))
        (cases_lt j k)

    seen' : (a : ℕ × ℕ) → InRange t a.0 a.1 → ComesBefore a (p.0, p.1 + 1) → (m : ℕ) × IsMarked u' a m
    seen' a inside h =
        ⊎_elim (λ h0. let v = s.seen a inside h0 in (v.0, n.kept a v.0 v.1))
        (λ is. (k, subst (λ y. IsMarked u' y k) (sym is) n.here))
        (before_cases a p h)

    ordered' : (a : ℕ × ℕ) (m j : ℕ) → IsMarked u' a m → j < m → (b : ℕ × ℕ) × ComesBefore b a × IsMarked u' b j
    ordered' a m j h lt =
        ⊎_elim (λ h0. let v = s.ordered a m j h0 lt in (v.0, v.1, n.kept v.0 j v.2))
        (λ is.
        let e : m ≡ k = is in
        let v = s.used j (omega arith) in
        ⊎_elim (λ h0.
        let i = cell_in_range u' table' a.0 a.1 (Some m) h in
        let l0 = i.0 in
        let l1 = i.1 in
        let rows = size.rows in
        let cols = size.cols in
        let lr : a.0 < row_count t = omega arith in
        let lc : a.1 < col_count t = omega arith in
        let w = s.seen a (lr, lc) h0 in
        let same : w.0 ≡ m = one_mark u' a w.0 m (n.kept a w.0 w.1) h in
        let clash : w.0 < k = s.below a w.0 w.1 in
        absurd (omega arith))
        (λ after. (v.0, after v.0 v.1, n.kept v.0 j v.2))
        (not_before a p))
        (n.is a m h)

    pub IsScanned-numbered : IsScanned connectivity eq t u' (k + 1) (p.0, p.1 + 1)
    IsScanned-numbered =
        record {
          below = below';
          used = used';
          seen = seen';
          ordered = ordered';
          parts = λ e. AreParts-numbered connectivity eq t table e u u' k p x at (s.parts e) s.below n;
        }

  -- at the end
  module _ (table : IsTable t) (u : List (List (Option ℕ))) (u_table : IsTable u) (size : HaveOneSize u t) (count : ℕ) (s : IsScanned connectivity eq t u count (row_count t, 0)) where
    plain : List (List ℕ)
    plain = tabulate (row_count u) (col_count u) (λ r c. option_map (λ number. unwrap_or number 0) (cell u r c))

    to : (a : ℕ × ℕ) (k : ℕ) → IsMarked u a k → cell plain a.0 a.1 ≡ Some k
    unfolding plain
    to a k h =
        mapped-cell (λ number. unwrap_or number 0) u u_table a.0 a.1 ∙ ap (λ o. option_map (λ number. unwrap_or number 0) o) h

    some_of : (o : Option (Option ℕ)) (k : ℕ) → option_map (λ number. unwrap_or number 0) o ≡ Some k → (y : Option ℕ) × (o ≡ Some y)
    some_of None k h = absurd (cc)
    some_of (Some y) k h = (y, refl)

    back : (a : ℕ × ℕ) (k : ℕ) → cell plain a.0 a.1 ≡ Some k → IsMarked u a k
    unfolding plain
    back a k h =
        let y = some_of (cell u a.0 a.1) k (sym (mapped-cell (λ number. unwrap_or number 0) u u_table a.0 a.1) ∙ h) in
        let i = cell_in_range u u_table a.0 a.1 y.0 y.1 in
        let l0 = i.0 in
        let l1 = i.1 in
        let rows = size.rows in
        let cols = size.cols in
        let lr : a.0 < row_count t = omega arith in
        let lc : a.1 < col_count t = omega arith in
        let v = s.seen a (lr, lc) (inl lr) in
        let both : ◌≡◌ {A = Option ℕ} (Some v.0) (Some k) = sym (to a v.0 v.1) ∙ h in
        let is : v.0 ≡ k = cc in
        subst (λ x. IsMarked u a x) is v.1

    pub AreNumbers-end : AreNumbers (tabulate (row_count u) (col_count u) (λ r c. option_map (λ number. unwrap_or number 0) (cell u r c))) count
    unfolding plain
    AreNumbers-end =
        record {
          below = λ a k h. s.below a k (back a k h);
          used = λ k lt. let v = s.used k lt in (v.0, to v.0 k v.2);
          ordered = λ a k j h lt. let v = s.ordered a k j (back a k h) lt in (v.0, v.1, to v.0 j v.2);
        }

    pub AreRegions-end : IsEquivalence eq → AreRegions connectivity eq t (tabulate (row_count u) (col_count u) (λ r c. option_map (λ number. unwrap_or number 0) (cell u r c)))
    unfolding plain
    AreRegions-end e =
        let P = s.parts e in
        record {
          one = λ a b k ha hb. P.one a b k (back a k ha) (back b k hb);
          whole = λ a b k h j. to b k (along connectivity eq t table e u P j.0 k j.1 a b j.3 (back a k h));
        }
