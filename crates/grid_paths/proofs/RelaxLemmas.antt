-- One position entered, and the positions around one.
use Rattle.std.proofs.Common.{◌≡◌, ℕ, ◌+◌, ◌^◌, ◌<◌, ◌≤◌, ◌⊎◌, ◌↔◌, Option, None, Some, List, [], ◌∷◌, Contains, OnOk, refl, sym, ◌∙◌, ap, subst, arith, inl, inr, ⊎_elim, IsPermutation}
use Rattle.grid_paths.proofs.Common.{cases_lt, row_count, col_count, cell, with_cell, IsTable, cell-with_same, cell-with_other, same_or_other, AreSteps, IsStep, Holds, Entry, IsWaiting, HoldsUpTo, IsClosed, Relaxes, IsFrontier, Enters, cell_in_range, Reading, Puts, sums_of, waiting, on_ok_weaker, Outcome, VisitsEach}
use Rattle.std.specs.declared.cmp.Ordering.{Ordering}
use Rattle.grid_base.proofs.Common.{InRange}
use Rattle.grid_near.specs.declared.steps.Connectivity.{Connectivity}
use Rattle.grid_paths.proofs.AroundLemmas.{none_in, contains_next}
use Rattle.grid_paths.proofs.SearchLemmas.{one_mark}
use Rattle.grid_paths.proofs.StepLemmas.{in_range_as}
use Rattle.grid_paths.specs.Relaxing.{IsEntered}
use Rattle.grid_paths.specs.declared.costs.Frontier.{Frontier}
use Rattle.grid_paths.proofs.VisitLemmas.{visited_each}
use Rattle.grid_paths.proofs.HeapLemmas as heaps
use Rattle.grid_paths.proofs.WidthLemmas.{numbers-inside, numbers-table}

pub left_inside : (t : List (List (Option ℕ))) → IsTable t → (a : ℕ × ℕ) (k : ℕ) → Holds t a k → InRange t a.0 a.1
left_inside t table a k h = cell_in_range t table a.0 a.1 (Some k) h

-- a position of one table is in range of another of its size
pub same_size : {X : Type 0} (t : List (List (Option ℕ))) (u : List (List X)) → IsTable t → row_count u ≡ row_count t → col_count u ≡ col_count t → (a : ℕ × ℕ) (k : ℕ) → Holds t a k → InRange u a.0 a.1
same_size t u table rows cols a k h = in_range_as t u rows cols a (left_inside t table a k h)

-- no less than the number there
pub not_less : (u : List (List (Option ℕ))) (a : ℕ × ℕ) (n : ℕ) → (((m : ℕ) → Holds u a m → n < m) → ⊥) → HoldsUpTo u a n
not_less u a n contra = of (cell u a.0 a.1) refl
  where
    of : (o : Option (Option ℕ)) → cell u a.0 a.1 ≡ o → HoldsUpTo u a n
    of None e = absurd (contra (λ m h. let clash : ◌≡◌ {A = Option (Option ℕ)} None (Some (Some m)) = sym e ∙ h in cc))
    of (Some None) e =
        absurd (contra (λ m h. let clash : ◌≡◌ {A = Option (Option ℕ)} (Some None) (Some (Some m)) = sym e ∙ h in cc))
    of (Some (Some k)) e =
        ⊎_elim (λ lt. absurd (contra (λ m h. let is : m ≡ k = one_mark u a m k h e in omega arith))) (λ le. (k, e, le)) (cases_lt n k)

-- a lower number is written at the position b
module _ (left u : List (List (Option ℕ))) (b : ℕ × ℕ) (sum : ℕ) (heap : List Entry) (k : ℕ) (cost : Holds left b k) (table : IsTable u) (small : k < 2 ^ 32) (inside : InRange u b.0 b.1) (less : (m : ℕ) → Holds u b m → sum + k < m) (x : Entry) (heap' : List Entry) (is_sum : x.0.0 ≡ sum + k) (is_at : x.0.1 ≡ b)
    (p : IsPermutation (x ∷ heap) heap') where
  t : List (List (Option ℕ))
  t = with_cell u b.0 b.1 (Some (sum + k))

  there : Holds t b (sum + k)
  unfolding t
  there = cell-with_same u table b.0 b.1 (Some (sum + k)) inside.0 inside.1

  there_for : (a : ℕ × ℕ) → a ≡ b → Holds t a (sum + k)
  there_for a e = subst (λ x. Holds t x (sum + k)) (sym e) there

  lower : (a : ℕ × ℕ) (m : ℕ) → Holds u a m → HoldsUpTo t a m
  unfolding t
  lower a m h =
      ⊎_elim (λ e. let lt = less m (subst (λ x. Holds u x m) e h) in (sum + k, there_for a e, omega arith))
      (λ other. (m, cell-with_other u b.0 b.1 (Some (sum + k)) a.0 a.1 other ∙ h, omega arith))
      (same_or_other a b)

  waits : IsWaiting heap' (sum + k) b
  waits =
      subst (λ s. IsWaiting heap' s b) is_sum (subst (λ a. IsWaiting heap' x.0.0 a) is_at (heaps.here x heap heap' p))

  fresh : (a : ℕ × ℕ) (m : ℕ) → Holds t a m → Holds u a m ⊎ IsEntered (λ a. b ≡ a) left sum heap' a m
  unfolding t
  fresh a m h =
      ⊎_elim (λ e.
      let is : m ≡ sum + k = one_mark t a m (sum + k) h (there_for a e) in
      inr (record {
        is_near = sym e;
        cost = k;
        is_left = subst (λ x. Holds left x k) (sym e) cost;
        is = is;
        few = small;
        waits = subst (λ s. IsWaiting heap' s a) (sym is) (subst (λ y. IsWaiting heap' (sum + k) y) (sym e) waits);
      }))
      (λ other. inl (sym (cell-with_other u b.0 b.1 (Some (sum + k)) a.0 a.1 other) ∙ h))
      (same_or_other a b)

  added : (s : ℕ) (a : ℕ × ℕ) → IsWaiting heap' s a → IsWaiting heap s a ⊎ (HoldsUpTo t a s × (sum ≤ s))
  added s a w =
      ⊎_elim (λ e.
      let same : x.0.0 ≡ s = e.0 in
      let at : a ≡ b = sym e.1 ∙ is_at in
      inr ((sum + k, there_for a at, omega arith), omega arith))
      (λ h. inl h)
      (heaps.added x heap heap' p s a w)

  wrote : Relaxes (λ a. b ≡ a) left sum u heap t heap'
  wrote =
      record {
        lower = lower;
        fresh = fresh;
        kept = λ s a w. heaps.kept x heap heap' p s a w;
        added = added;
        around = λ a j e h.
            let is : j ≡ k = one_mark left b j k (subst (λ y. Holds left y j) (sym e) h) cost in
            (sum + k, there_for a (sym e), omega arith);
      }

  pub Relaxes-wrote : (u' : List (List (Option ℕ))) → u' ≡ with_cell u b.0 b.1 (Some (sum + k)) → Relaxes (λ a. b ≡ a) left sum u heap u' heap'
  unfolding t
  Relaxes-wrote u' e = subst (λ y. Relaxes (λ a. b ≡ a) left sum u heap y heap') (sym e) wrote

-- some positions and then others
module _ (left : List (List (Option ℕ))) (sum : ℕ) (near0 near1 : ℕ × ℕ → Type 0) (u0 : List (List (Option ℕ))) (h0 : List Entry) (u1 : List (List (Option ℕ))) (h1 : List Entry) (u2 : List (List (Option ℕ))) (h2 : List Entry)
    (r : Relaxes near0 left sum u0 h0 u1 h1) (s : Relaxes near1 left sum u1 h1 u2 h2) where
  either : ℕ × ℕ → Type 0
  either a = near0 a ⊎ near1 a

  lower2 : (a : ℕ × ℕ) (m : ℕ) → HoldsUpTo u1 a m → HoldsUpTo u2 a m
  lower2 a m v =
      let w = s.lower a v.0 v.1 in
      let le : v.0 ≤ m = v.2 in
      let le2 : w.0 ≤ v.0 = w.2 in
      (w.0, w.1, omega arith)

  both_fresh : (a : ℕ × ℕ) (m : ℕ) → Holds u2 a m → Holds u0 a m ⊎ IsEntered (λ a. near0 a ⊎ near1 a) left sum h2 a m
  both_fresh a m h =
      ⊎_elim (λ x.
      ⊎_elim (λ y. inl y)
      (λ f. inr (record { is_near = inl f.is_near; cost = f.cost; is_left = f.is_left; is = f.is; few = f.few; waits = s.kept m a f.waits }))
      (r.fresh a m x))
      (λ f. inr (record { is_near = inr f.is_near; cost = f.cost; is_left = f.is_left; is = f.is; few = f.few; waits = f.waits }))
      (s.fresh a m h)

  both_added : (n : ℕ) (a : ℕ × ℕ) → IsWaiting h2 n a → IsWaiting h0 n a ⊎ (HoldsUpTo u2 a n × (sum ≤ n))
  both_added n a w =
      ⊎_elim (λ x. ⊎_elim (λ y. inl y) (λ f. inr (lower2 a n f.0, f.1)) (r.added n a x)) (λ f. inr f) (s.added n a w)

  pub Relaxes-join : Relaxes (λ a. near0 a ⊎ near1 a) left sum u0 h0 u2 h2
  Relaxes-join =
      record {
        lower = λ a m h. lower2 a m (r.lower a m h);
        fresh = both_fresh;
        kept = λ n a w. s.kept n a (r.kept n a w);
        added = both_added;
        around = λ b k is_near h.
            ⊎_elim (λ n. lower2 b (sum + k) (r.around b k n h)) (λ n. s.around b k n h) is_near;
      }

-- the same seen as positions near in another sense, where they are left
Relaxes-as : (left : List (List (Option ℕ))) (sum : ℕ) (near wide : ℕ × ℕ → Type 0) → ((b : ℕ × ℕ) (k : ℕ) → Holds left b k → near b ↔ wide b) → (u : List (List (Option ℕ))) (h : List Entry) (u' : List (List (Option ℕ))) (h' : List Entry) → Relaxes near left sum u h u' h' → Relaxes wide left sum u h u' h'
Relaxes-as left sum near wide same u h u' h' r =
    record {
      lower = r.lower;
      fresh = λ a j x.
          ⊎_elim (λ y. inl y)
          (λ f. inr (record { is_near = (same a f.cost f.is_left).0 f.is_near; cost = f.cost; is_left = f.is_left; is = f.is; few = f.few; waits = f.waits }))
          (r.fresh a j x);
      kept = r.kept;
      added = r.added;
      around = λ b k w x. r.around b k ((same b k x).1 w) x;
    }

-- a number is put: the tables keep their size, and the heap its order
pub Puts-whole : {N A : Type 0} {cmp : N → N → Ordering} {w : Reading N} {b : ℕ × ℕ} {m : ℕ} {f g : Frontier N A} → IsFrontier cmp w f → Puts cmp w b m f g → IsFrontier cmp w g
Puts-whole whole p =
    let rows = ap (λ l. row_count l.rows) p.left in
    let cols = ap (λ l. col_count l.rows) p.left in
    record {
      size = record { rows = p.same.rows ∙ (whole.size.rows ∙ sym rows); cols = p.same.cols ∙ (whole.size.cols ∙ sym cols) };
      rows = omega (arith, rows, whole.rows);
      cols = omega (arith, cols, whole.cols);
      heap_order = p.heap_order whole.heap_order;
    }

module _ {N A : Type 0} {cmp : N → N → Ordering} {w : Reading N} {sum : ℕ} {f : Frontier N A} where
  -- the same of what the code keeps
  Enters-as : (near wide : ℕ × ℕ → Type 0) → ((b : ℕ × ℕ) (k : ℕ) → Holds f.left.rows b k → near b ↔ wide b) → (g : Frontier N A) → Enters cmp w near sum f g → Enters cmp w wide sum f g
  Enters-as near wide same g e =
      record {
        left = e.left;
        order = e.order;
        whole = e.whole;
        relaxes = Relaxes-as f.left.rows sum near wide same (sums_of w f) (waiting w f) (sums_of w g) (waiting w g) e.relaxes;
      }

  module _ (near : ℕ × ℕ → Type 0) (whole : IsFrontier cmp w f) where
    -- no position is entered
    pub Enters-none : ((b : ℕ × ℕ) (k : ℕ) → near b → Holds f.left.rows b k → HoldsUpTo (sums_of w f) b (sum + k)) → Enters cmp w near sum f f
    Enters-none around =
        record {
          left = refl;
          order = refl;
          whole = whole;
          relaxes = record { lower = λ a m h. (m, h, omega arith); fresh = λ a m h. inl h; kept = λ s a w. w; added = λ s a w. inl w; around = around };
        }

  -- the position b isn't left
  pub Enters-closed : (b : ℕ × ℕ) → IsFrontier cmp w f → IsClosed f.left.rows b → Enters cmp w (λ a. b ≡ a) sum f f
  Enters-closed b whole none =
      Enters-none (λ a. b ≡ a) whole (λ a k e h. absurd (none k (subst (λ x. Holds f.left.rows x k) (sym e) h)))

  -- its number is low enough
  pub Enters-low : (b : ℕ × ℕ) (k : ℕ) → IsFrontier cmp w f → Holds f.left.rows b k → HoldsUpTo (sums_of w f) b (sum + k) → Enters cmp w (λ a. b ≡ a) sum f f
  Enters-low b k whole cost low =
      Enters-none (λ a. b ≡ a) whole
      (λ a j e h.
      let is : k ≡ j = one_mark f.left.rows b k j cost (subst (λ x. Holds f.left.rows x j) (sym e) h) in
      subst (λ n. HoldsUpTo (sums_of w f) a (sum + n)) is (subst (λ x. HoldsUpTo (sums_of w f) x (sum + k)) e low))

  -- it gets a lower one
  pub Enters-put : (b : ℕ × ℕ) (k : ℕ) (g : Frontier N A) → IsFrontier cmp w f → Holds f.left.rows b k → k < 2 ^ 32 → ((m : ℕ) → Holds (sums_of w f) b m → sum + k < m) → Puts cmp w b (sum + k) f g → Enters cmp w (λ a. b ≡ a) sum f g
  Enters-put b k g whole cost small less p =
      let inside = same_size f.left.rows f.sums.rows f.left.table whole.size.rows whole.size.cols b k cost in
      record {
        left = p.left;
        order = p.same.order;
        whole = Puts-whole whole p;
        relaxes = Relaxes-wrote f.left.rows (sums_of w f) b sum (waiting w f) k cost (numbers-table w f.sums.rows f.sums.table) small (numbers-inside w f.sums.rows b inside) less
            (record { 0 = (sum + k, b) }) (waiting w g) refl refl p.waits (sums_of w g) p.sums;
      }

  -- one position and then those of a list
  Enters-next : {b : ℕ × ℕ} (xs : List (ℕ × ℕ)) {g h : Frontier N A} → Enters cmp w (λ a. b ≡ a) sum f g → Enters cmp w (λ a. Contains xs a) sum g h → Enters cmp w (λ a. Contains (b ∷ xs) a) sum f h
  Enters-next {b = b} xs {g = g} {h = h} e s =
      Enters-as (λ a. (b ≡ a) ⊎ Contains xs a) (λ a. Contains (b ∷ xs) a)
      (λ a k is_left. contains_next b xs a)
      h
      (record {
        left = s.left ∙ e.left;
        order = s.order ∙ e.order;
        whole = s.whole;
        relaxes = Relaxes-join f.left.rows sum (λ a. b ≡ a) (λ a. Contains xs a) (sums_of w f) (waiting w f) (sums_of w g) (waiting w g) (sums_of w h) (waiting w h) e.relaxes
            (subst (λ l. Relaxes (λ a. Contains xs a) l.rows sum (sums_of w g) (waiting w g) (sums_of w h) (waiting w h)) e.left s.relaxes);
      })

  -- positions in range are such as a grid can have
  Enters-steps : (connectivity : Connectivity) (at : ℕ × ℕ) (xs : List (ℕ × ℕ)) → AreSteps connectivity at xs → (g : Frontier N A) → Enters cmp w (λ b. Contains xs b) sum f g → Enters cmp w (IsStep connectivity at) sum f g
  Enters-steps connectivity at xs steps g e =
      Enters-as (λ b. Contains xs b) (IsStep connectivity at)
      (λ b k x.
      let i = left_inside f.left.rows f.left.table b k x in
      let lr = i.0 in
      let lc = i.1 in
      let rows = f.left.fits.rows in
      let cols = f.left.fits.cols in
      steps b (omega arith) (omega arith))
      g e

module _ {N A : Type 0} {cmp : N → N → Ordering} {w : Reading N} (sum : ℕ) where
  -- the positions that a step leads to, one after another
  pub Enters-around : (connectivity : Connectivity) (at : ℕ × ℕ) (near : List (ℕ × ℕ)) → AreSteps connectivity at near → (r : Outcome) (f g : Frontier N A) → IsFrontier cmp w f → VisitsEach (λ at r f g. OnOk r (Enters cmp w (λ b. at ≡ b) sum f g)) near r f g → OnOk r (Enters cmp w (IsStep connectivity at) sum f g)
  Enters-around connectivity at near steps r f g whole each =
      on_ok_weaker r (λ h. Enters-steps connectivity at near steps g (h whole))
      (visited_each (λ at r f g. OnOk r (Enters cmp w (λ b. at ≡ b) sum f g)) (λ near f g. IsFrontier cmp w f → Enters cmp w (λ b. Contains near b) sum f g)
      (λ f whole. Enters-none (λ b. Contains [] b) whole (λ b k is_near h. absurd (none_in b is_near)))
      (λ at later f g h one rest whole. Enters-next later one (rest one.whole)) near r f g each)
