-- Cells taken: one, those at the positions of a list, those that steps lead to; and put back.
use Rattle.std.proofs.Common.{◌≡◌, ◌≢◌, ℕ, suc, ◌+◌, ◌<◌, ◌≤◌, ◌⊎◌, ◌↔◌, Bool, Option, None, Some, List, [], ◌∷◌, ◌++◌, length, set, get_or, Contains, OnOk, MatchOption, refl, sym, ◌∙◌, ap, subst, arith, inl, inr, ⊎_elim, slice_get, sum_by, length-append}
use Rattle.grid_paths.proofs.Common.{cases_lt, set_past, set-get_or, sum_by-set, slice_get_within, get_or_from_slice_get, row, row_count, col_count, cell, with_cell, IsTable, GridValue, cell_in_range, cell-with_same, cell-with_other, same_or_other, IsStep, undone, flag, IsLeft, count_left, AreMarked, TakesAll, Takes, CanUndo, AreSteps, way_of, on_ok_weaker, Outcome, VisitsEach}
use Rattle.grid_base.proofs.Common.{InRange}
use Rattle.grid.proofs.CellWriteLemmas.{with_cell_back}
use Rattle.grid_near.specs.declared.steps.Connectivity.{Connectivity}
use Rattle.grid_paths.specs.declared.taken.Enter.{Enter}
use Rattle.grid_paths.specs.declared.taken.Enter.TheVariants.{No, Stop, On}
use Rattle.grid_paths.specs.declared.taken.Taking.{Taking}
use Rattle.grid_paths.proofs.StepLemmas.{at_push, at_end, at_push_fresh}
use Rattle.grid_paths.proofs.AroundLemmas.{none_in, contains_next}
use Rattle.grid_paths.proofs.VisitLemmas.{visited_each, kept_each}
use Rattle.grid_paths.specs.declared.taken.Cells.{Cells}

flag_one : (e : Enter) → e ≢ No → flag e ≡ 1
flag_one No h = absurd (h refl)
flag_one Stop h = refl
flag_one On h = refl

-- a cell taken
module _ {T : Type 0} (way : T → Enter) (mark : T) (mark_no : way mark ≡ No) (t : List (List T)) (table : IsTable t) (q : List ((ℕ × ℕ) × T)) (b : ℕ × ℕ) (x : T) (is_left : IsLeft way t b x) where
  inside : InRange t b.0 b.1
  inside = cell_in_range t table b.0 b.1 x is_left.0

  gone_one : (y : T) → IsLeft way (with_cell t b.0 b.1 mark) b y → ⊥
  gone_one y h =
      let e : Some mark ≡ Some y = sym (cell-with_same t table b.0 b.1 mark inside.0 inside.1) ∙ h.0 in
      let is : mark ≡ y = cc in
      h.1 (subst (λ z. way z ≡ No) is mark_no)

  fewer_one : (a : ℕ × ℕ) (y : T) → IsLeft way (with_cell t b.0 b.1 mark) a y → IsLeft way t a y
  fewer_one a y h =
      ⊎_elim (λ same. absurd (gone_one y (subst (λ z. IsLeft way (with_cell t b.0 b.1 mark) z y) same h)))
      (λ other. (sym (cell-with_other t b.0 b.1 mark a.0 a.1 other) ∙ h.0, h.1))
      (same_or_other a b)

  all_one : (a : ℕ × ℕ) (y : T) → IsLeft way t a y → IsLeft way (with_cell t b.0 b.1 mark) a y ⊎ ((j : ℕ) × (z : T) × (slice_get (q ++ (b, x) ∷ []) j ≡ Some (a, z)))
  all_one a y h =
      ⊎_elim (λ same. inr (length q, x, subst (λ z. slice_get (q ++ (b, x) ∷ []) (length q) ≡ Some (z, x)) (sym same) (at_end q (b, x))))
      (λ other. inl (cell-with_other t b.0 b.1 mark a.0 a.1 other ∙ h.0, h.1))
      (same_or_other a b)

  count_left-one : count_left way (with_cell t b.0 b.1 mark) + 1 ≡ count_left way t
  count_left-one =
      let xs = row t b.0 in
      let lt : b.1 < length xs = slice_get_within xs b.1 x is_left.0 in
      let was : get_or xs b.1 x ≡ x = get_or_from_slice_get xs b.1 x x is_left.0 in
      let one : flag (way (get_or xs b.1 x)) ≡ 1 = ap (λ y. flag (way y)) was ∙ flag_one (way x) is_left.1 in
      let none : flag (way mark) ≡ 0 = ap flag mark_no in
      let cells = sum_by-set (λ y. flag (way y)) xs b.1 mark x lt in
      let rows = sum_by-set (sum_by (λ y. flag (way y))) t b.0 (set xs b.1 mark) [] inside.0 in
      omega arith

  stays : (a : ℕ × ℕ) → cell t a.0 a.1 ≡ Some mark → cell (with_cell t b.0 b.1 mark) a.0 a.1 ≡ Some mark
  stays a h =
      ⊎_elim (λ same. subst (λ v. cell (with_cell t b.0 b.1 mark) v.0 v.1 ≡ Some mark) (sym same) (cell-with_same t table b.0 b.1 mark inside.0 inside.1))
      (λ other. cell-with_other t b.0 b.1 mark a.0 a.1 other ∙ h)
      (same_or_other a b)

  not_marked : (a : ℕ × ℕ) → a ≡ b → cell t a.0 a.1 ≡ Some mark → ⊥
  not_marked a same h =
      let e : Some mark ≡ Some x = sym h ∙ subst (λ v. cell t v.0 v.1 ≡ Some x) (sym same) is_left.0 in
      let is : mark ≡ x = cc in
      is_left.1 (subst (λ z. way z ≡ No) is mark_no)

  marked_one : AreMarked way mark t q → AreMarked way mark (with_cell t b.0 b.1 mark) (q ++ (b, x) ∷ [])
  marked_one o =
      record {
        marked = λ j y h.
            ⊎_elim (λ e. subst (λ v. cell (with_cell t b.0 b.1 mark) (v.0).0 (v.0).1 ≡ Some mark) (sym e.1) (cell-with_same t table b.0 b.1 mark inside.0 inside.1))
            (λ h0. stays y.0 (o.marked j y h0))
            (at_push_fresh q (b, x) j y h);
        once = λ i j y z h k same.
            ⊎_elim (λ e.
            ⊎_elim (λ f. e.0 ∙ sym f.0)
            (λ k0. absurd (not_marked z.0 (sym same ∙ ap (λ v. v.0) e.1) (o.marked j z k0)))
            (at_push_fresh q (b, x) j z k))
            (λ h0.
            ⊎_elim (λ f. absurd (not_marked y.0 (same ∙ ap (λ v. v.0) f.1) (o.marked i y h0)))
            (λ k0. o.once i j y z h0 k0 same)
            (at_push_fresh q (b, x) j z k))
            (at_push_fresh q (b, x) i y h);
      }

  pub TakesAll-one : TakesAll way mark (λ a. b ≡ a) t q (with_cell t b.0 b.1 mark) (q ++ (b, x) ∷ [])
  TakesAll-one =
      let long : length (q ++ (b, x) ∷ []) ≡ length q + 1 = length-append q ((b, x) ∷ []) in
      let count = count_left-one in
      record {
        takes = record {
          fewer = fewer_one;
          all = all_one;
          kept_at = λ j y h. at_push q (b, x) j y h;
          fresh_at = λ j y h.
              ⊎_elim (λ e.
              let low : length q ≤ j = omega (arith, e.0) in
              let is = sym e.1 in
              inr (low, ap (λ v. v.0) is, subst (λ v. IsLeft way t v.0 v.1) is is_left))
              (λ h0. inl h0)
              (at_push_fresh q (b, x) j y h);
          longer = omega arith;
          total = omega arith;
          marked = marked_one;
        };
        around = λ a y is l. gone_one y (subst (λ z. IsLeft way (with_cell t b.0 b.1 mark) z y) (sym is) l);
      }

module _ {T : Type 0} {way : T → Enter} {mark : T} where
  -- none of the near cells is left
  pub TakesAll-stay : (near : ℕ × ℕ → Type 0) (t : List (List T)) (q : List ((ℕ × ℕ) × T)) → ((a : ℕ × ℕ) (x : T) → near a → IsLeft way t a x → ⊥) → TakesAll way mark near t q t q
  TakesAll-stay near t q around =
      record {
        takes = record {
          fewer = λ a x h. h;
          all = λ a x h. inl h;
          kept_at = λ j x h. h;
          fresh_at = λ j x h. inl h;
          longer = omega arith;
          total = refl;
          marked = λ o. o;
        };
        around = around;
      }

  -- the same seen as positions that are near in another sense, where they are left
  TakesAll-as : (near wide : ℕ × ℕ → Type 0) {t : List (List T)} {q : List ((ℕ × ℕ) × T)} {t' : List (List T)} {q' : List ((ℕ × ℕ) × T)} → ((a : ℕ × ℕ) (x : T) → IsLeft way t a x → near a ↔ wide a) → TakesAll way mark near t q t' q' → TakesAll way mark wide t q t' q'
  TakesAll-as near wide same e =
      let s = e.takes in
      record {
        takes = record {
          fewer = s.fewer;
          all = s.all;
          kept_at = s.kept_at;
          fresh_at = λ j x h. ⊎_elim (λ h0. inl h0) (λ w. inr (w.0, (same x.0 x.1 w.2).0 w.1, w.2)) (s.fresh_at j x h);
          longer = s.longer;
          total = s.total;
          marked = s.marked;
        };
        around = λ a x h l. e.around a x ((same a x (s.fewer a x l)).1 h) l;
      }

  -- some positions and then others
  TakesAll-join : {near0 near1 : ℕ × ℕ → Type 0} {t0 t1 t2 : List (List T)} {q0 q1 q2 : List ((ℕ × ℕ) × T)} → TakesAll way mark near0 t0 q0 t1 q1 → TakesAll way mark near1 t1 q1 t2 q2 → TakesAll way mark (λ a. near0 a ⊎ near1 a) t0 q0 t2 q2
  TakesAll-join {q0 = q0} {q1 = q1} e0 e1 =
      let s = e0.takes in
      let r = e1.takes in
      let le = s.longer in
      let le2 = r.longer in
      record {
        takes = record {
          fewer = λ a x h. s.fewer a x (r.fewer a x h);
          all = λ a x h. ⊎_elim (λ h1. r.all a x h1) (λ v. inr (v.0, v.1, r.kept_at v.0 (a, v.1) v.2)) (s.all a x h);
          kept_at = λ j x h. r.kept_at j x (s.kept_at j x h);
          fresh_at = λ j x h.
              ⊎_elim (λ h1. ⊎_elim (λ h0. inl h0) (λ w. inr (w.0, inl w.1, w.2)) (s.fresh_at j x h1))
              (λ w. let low : length q1 ≤ j = w.0 in let up : length q0 ≤ j = omega arith in inr (up, inr w.1, s.fewer x.0 x.1 w.2))
              (r.fresh_at j x h);
          longer = omega arith;
          total = r.total ∙ s.total;
          marked = λ o. r.marked (s.marked o);
        };
        around = λ a x is l. ⊎_elim (λ n. e0.around a x n (r.fewer a x l)) (λ n. e1.around a x n l) is;
      }

  -- the positions that a step leads to, if the search goes on: those in range are such as a grid can have
  TakesAll-steps : (connectivity : Connectivity) (from : (ℕ × ℕ) × T) (xs : List (ℕ × ℕ)) (t : GridValue T) {q : List ((ℕ × ℕ) × T)} {t' : List (List T)} {q' : List ((ℕ × ℕ) × T)} → AreSteps connectivity from.0 xs → way from.1 ≡ On → TakesAll way mark (λ a. Contains xs a) t.rows q t' q' → TakesAll way mark (λ a. (way from.1 ≡ On) × IsStep connectivity from.0 a) t.rows q t' q'
  TakesAll-steps connectivity from xs t steps on s =
      TakesAll-as (λ a. Contains xs a) (λ a. (way from.1 ≡ On) × IsStep connectivity from.0 a)
      (λ a x l.
      let i = cell_in_range t.rows t.table a.0 a.1 x l.0 in
      let lr = i.0 in
      let lc = i.1 in
      let rows = t.fits.rows in
      let cols = t.fits.cols in
      let same : Contains xs a ↔ IsStep connectivity from.0 a = steps a (omega arith) (omega arith) in
      (λ h. (on, same.0 h), λ h. same.1 h.1))
      s

  -- one position and then those of a list
  TakesAll-next : {b : ℕ × ℕ} (xs : List (ℕ × ℕ)) {t0 t1 t2 : List (List T)} {q0 q1 q2 : List ((ℕ × ℕ) × T)} → TakesAll way mark (λ a. b ≡ a) t0 q0 t1 q1 → TakesAll way mark (λ a. Contains xs a) t1 q1 t2 q2 → TakesAll way mark (λ a. Contains (b ∷ xs) a) t0 q0 t2 q2
  TakesAll-next {b = b} xs one rest =
      TakesAll-as (λ a. (b ≡ a) ⊎ Contains xs a) (λ a. Contains (b ∷ xs) a) (λ a x l. contains_next b xs a) (TakesAll-join one rest)

pub CanUndo-same : {T A : Type 0} (s : Taking T A) → CanUndo s s
CanUndo-same s = record { same_reference = refl; same = record { rows = refl; cols = refl; order = refl }; saves = refl }

pub CanUndo-trans : {T A : Type 0} {s0 s1 s2 : Taking T A} → CanUndo s0 s1 → CanUndo s1 s2 → CanUndo s0 s2
CanUndo-trans u v =
    record {
      same_reference = v.same_reference ∙ u.same_reference;
      same = record { rows = v.same.rows ∙ u.same.rows; cols = v.same.cols ∙ u.same.cols; order = v.same.order ∙ u.same.order };
      saves = v.saves ∙ u.saves;
    }

module _ {T A : Type 0} (eq : T → T → Bool) (cells : Cells T) where
  -- what visits of positions take one after another
  abbrev pub TakesOne : ℕ × ℕ → Outcome → Taking T A → Taking T A → Type 0
  TakesOne at r s t = CanUndo s t × OnOk r (Takes eq cells (λ b. at ≡ b) s t)

  pub CanUndo-each : (near : List (ℕ × ℕ)) (r : Outcome) (s u : Taking T A) → VisitsEach TakesOne near r s u → CanUndo s u
  CanUndo-each =
      kept_each TakesOne (λ s u. CanUndo s u) (λ s. CanUndo-same s) (λ s t u h k. CanUndo-trans h k) (λ at r s t one. one.0)

  pub Takes-each : (near : List (ℕ × ℕ)) (r : Outcome) (s u : Taking T A) → VisitsEach TakesOne near r s u → OnOk r (Takes eq cells (λ b. Contains near b) s u)
  Takes-each =
      visited_each TakesOne (λ near s u. Takes eq cells (λ b. Contains near b) s u)
      (λ s. TakesAll-stay (λ b. Contains [] b) s.grid.now.rows s.taken.items (λ a x is l. none_in a is))
      (λ at later s t u one rest. TakesAll-next later one.1 rest)

  pub Takes-around : (connectivity : Connectivity) (from : (ℕ × ℕ) × T) (near : List (ℕ × ℕ)) → AreSteps connectivity from.0 near → way_of eq cells.on cells.stop from.1 ≡ On → (r : Outcome) (s u : Taking T A) → VisitsEach TakesOne near r s u → OnOk r (Takes eq cells (λ b. (way_of eq cells.on cells.stop from.1 ≡ On) × IsStep connectivity from.0 b) s u)
  Takes-around connectivity from near steps on r s u each =
      on_ok_weaker r (λ h. TakesAll-steps connectivity from near s.grid.now steps on h) (Takes-each near r s u each)

-- a write in range is made, and one out of range changes nothing
module _ {T : Type 0} (t : List (List T)) (table : IsTable t) (r c : ℕ) (w : T) where
  with_cell_past : (InRange t r c → ⊥) → with_cell t r c w ≡ t
  with_cell_past past =
      ⊎_elim (λ lr.
      ⊎_elim (λ lc. absurd (past (lr, lc)))
      (λ ge.
      let even : length (row t r) ≡ col_count t = table.even r lr in
      ap (λ v. set t r v) (set_past (row t r) c w (omega arith)) ∙ set-get_or t r [])
      (cases_lt c (col_count t)))
      (λ ge. set_past t r (set (row t r) c w) ge)
      (cases_lt r (row_count t))

  pub set_is : (u : List (List T)) (result : Option T) → MatchOption result (InRange t r c → ⊥) (λ _. InRange t r c) → MatchOption result (u ≡ t) (λ _. u ≡ with_cell t r c w) → u ≡ with_cell t r c w
  set_is u None past same = same ∙ sym (with_cell_past past)
  set_is u (Some x) there e = e

module _ {T : Type 0} where
  pub undone-push : (q : List ((ℕ × ℕ) × T)) (x : (ℕ × ℕ) × T) (t : List (List T)) → undone (q ++ x ∷ []) t ≡ undone q (with_cell t (x.0).0 (x.0).1 x.1)
  undone-push [] x t = refl
  undone-push (y ∷ q) x t = ap (λ v. with_cell v (y.0).0 (y.0).1 y.1) (undone-push q x t)

  -- a cell marked and put back
  pub undone-taken : (q : List ((ℕ × ℕ) × T)) (t : List (List T)) → IsTable t → (b : ℕ × ℕ) (w x : T) → cell t b.0 b.1 ≡ Some x → undone (q ++ (b, x) ∷ []) (with_cell t b.0 b.1 w) ≡ undone q t
  undone-taken q t table b w x h =
      undone-push q (b, x) (with_cell t b.0 b.1 w)
      ∙ ap (λ v. undone q v) (with_cell_back t b.0 b.1 w x (cell_in_range t table b.0 b.1 x h).0 h)

  -- no other cell is put back
  pub cell-undone_other : (q : List ((ℕ × ℕ) × T)) (t : List (List T)) (b : ℕ × ℕ) → ((j : ℕ) (x : T) → slice_get q j ≡ Some (b, x) → ⊥) → cell (undone q t) b.0 b.1 ≡ cell t b.0 b.1
  cell-undone_other [] t b none = refl
  cell-undone_other (y ∷ q) t b none =
      cell-with_other (undone q t) (y.0).0 (y.0).1 y.1 b.0 b.1
      (λ e f. none 0 y.1 (let same : ◌≡◌ {A = (ℕ × ℕ) × T} y (b, y.1) = λ i. ((sym e i, sym f i), y.1) in ap Some same))
      ∙ cell-undone_other q t b (λ j x h. none (suc j) x h)
