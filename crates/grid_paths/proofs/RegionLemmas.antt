-- The cells of a region filled: of those that were taken, or of a whole board.
use Rattle.std.proofs.Common.{◌≡◌, ℕ, zero, suc, ◌+◌, ◌-◌, ◌<◌, ◌≤◌, Bool, true, false, cond, Option, None, Some, List, [], ◌∷◌, length, Contains, IsSomeAnd, refl, sym, ◌∙◌, ap, subst, arith, inl, inr, ⊎_elim, add-one, Bor}
use Rattle.grid_paths.proofs.Common.{cases_lt, row_count, col_count, cell, with_cell, IsTable, MappedBy, cell_in_range, cell_past_rows, past_cols, cell-with_same, cell-with_other, same_or_other, IsOpen, IsStep, AreBeside, Walk, IsFilled, alike, HaveOneSize, IsAt, answers_by, IsEntered, IsGoneOn, EnterWalk, IsFlood, way_of, IsWritten}
use Rattle.grid_base.proofs.Common.{InRange}
use Rattle.grid_near.specs.declared.steps.Connectivity.{Connectivity}
use Rattle.grid_near.specs.declared.steps.Connectivity.TheVariants.{Four, Eight}
use Rattle.grid_paths.specs.declared.taken.Enter.TheVariants.{No, On}
use Rattle.grid_paths.proofs.AlikeLemmas.{open_alike, alike_open}
use Rattle.grid_paths.proofs.AroundLemmas.{Before, before_either, before_all, Contains-cases, Contains-first}
use Rattle.grid_paths.proofs.PathLemmas.{open_end, walk_back}
use Rattle.grid_paths.proofs.CountLemmas.{walk_append}
use Rattle.grid_paths.proofs.FloodLemmas.{left_by, gone_on_by}

-- the positions of a list written one after another, and written again
module _ {T : Type 0} (w : T) (xs : List (ℕ × ℕ)) (t : List (List T)) where
  pub IsWritten-start : IsWritten w (Before xs 0) t t
  IsWritten-start = record { written = λ a h. absurd (omega (arith, h.early)); kept = λ a out. refl }

  module _ (u : List (List T)) (table : IsTable u) (i : ℕ) (s : IsWritten w (Before xs i) t u) where
    pub IsWritten-next : (b : ℕ × ℕ) → IsAt xs i b → InRange u b.0 b.1 → (u' : List (List T)) → u' ≡ with_cell u b.0 b.1 w → IsWritten w (Before xs (i + 1)) t u'
    IsWritten-next b place here u' e =
        record {
          written = λ a h.
              ap (λ v. cell v a.0 a.1) e
              ∙ ⊎_elim (λ same. subst (λ v. cell (with_cell u b.0 b.1 w) v.0 v.1 ≡ Some w) (sym same) (cell-with_same u table b.0 b.1 w here.0 here.1))
              (λ other.
              cell-with_other u b.0 b.1 w a.0 a.1 other
              ∙ ⊎_elim (λ n. s.written a n) (λ same. absurd (other (ap (λ v. v.0) (sym same)) (ap (λ v. v.1) (sym same)))) ((before_either xs i b place a).1 h))
              (same_or_other a b);
          kept = λ a out.
              ap (λ v. cell v a.0 a.1) e
              ∙ ⊎_elim (λ same. absurd (out ((before_either xs i b place a).0 (inr (sym same)))))
              (λ other. cell-with_other u b.0 b.1 w a.0 a.1 other ∙ s.kept a (λ n. out ((before_either xs i b place a).0 (inl n))))
              (same_or_other a b);
        }

    pub IsWritten-all : length xs ≤ i → IsWritten w (λ a. Contains xs a) t u
    IsWritten-all all =
        record {
          written = λ a c. s.written a ((before_all xs i all a).1 c);
          kept = λ a out. s.kept a (λ n. out ((before_all xs i all a).0 n));
        }

-- the cells equal to x, as a search sees them that goes on from these
module _ {T : Type 0} (eq : T → T → Bool) (x : T) (t : List (List T)) (table : IsTable t) where
  on_test : (y : T) → eq y x ≡ true → way_of eq x None y ≡ On
  on_test y e = ap (λ b. cond b On No) e

  test_on : (y : T) → (way_of eq x None y ≡ No → ⊥) → eq y x ≡ true
  test_on y h = test (eq y x) h
    where
      test : (b : Bool) → (cond b On No ≡ No → ⊥) → b ≡ true
      test true n = refl
      test false n = absurd (n refl)

  open_entered : (a : ℕ × ℕ) → IsEntered (answers_by (way_of eq x None) t) a → IsOpen (alike eq x t) a
  open_entered a h =
      let v = left_by (way_of eq x None) t table a h in
      open_alike eq x t table a v.0 v.1.0 (test_on v.0 v.1.1)

  on_open : (a : ℕ × ℕ) → IsOpen (alike eq x t) a → IsGoneOn (answers_by (way_of eq x None) t) a
  on_open a o =
      let v = alike_open eq x t table a o in
      gone_on_by (way_of eq x None) t table a v.0 v.1 (on_test v.0 v.2)

  entered_open : (a : ℕ × ℕ) → IsOpen (alike eq x t) a → IsEntered (answers_by (way_of eq x None) t) a
  entered_open a o = (On, on_open a o, λ e. absurd (cc))

  walk_entered : (connectivity : Connectivity) (n : ℕ) (a b : ℕ × ℕ) → EnterWalk connectivity (answers_by (way_of eq x None) t) a b n → Walk connectivity (alike eq x t) a b n
  walk_entered connectivity zero a b w = (w.0, open_entered b w.1)
  walk_entered connectivity (suc n) a b w = (w.0, walk_entered connectivity n a w.0 w.1, w.3, open_entered b w.4)

  entered_walk : (connectivity : Connectivity) (n : ℕ) (a b : ℕ × ℕ) → Walk connectivity (alike eq x t) a b n → EnterWalk connectivity (answers_by (way_of eq x None) t) a b n
  entered_walk connectivity zero a b w = (w.0, entered_open b w.1)
  entered_walk connectivity (suc n) a b w =
      (w.0, entered_walk connectivity n a w.0 w.1, on_open w.0 (open_end connectivity (alike eq x t) n a w.0 w.1), w.2, entered_open b w.3)

  one_start : (a b : ℕ × ℕ) → Contains (a ∷ []) b → b ≡ a
  one_start a b c = ⊎_elim (λ e. sym e) (λ none. absurd (let lt : none.0 < 0 = none.1 in omega arith)) (Contains-cases a b [] c)

  -- the region of a position, written
  pub IsFilled-flood : (connectivity : Connectivity) (at : ℕ × ℕ) (xs : List (ℕ × ℕ)) (w : T) (u : List (List T)) → IsFlood connectivity (answers_by (way_of eq x None) t) (at ∷ []) xs → IsWritten w (λ a. Contains xs a) t u → IsFilled connectivity (alike eq x t) at w t u
  IsFilled-flood connectivity at xs w u flood written =
      record {
        filled = λ b n walk. written.written b (flood.whole at b n (Contains-first at at [] refl) (entered_walk connectivity n at b walk));
        kept = λ b none.
            written.kept b (λ c.
            let v = flood.walk b c in
            none v.1 (walk_entered connectivity v.1 at b (subst (λ a. EnterWalk connectivity (answers_by (way_of eq x None) t) a b v.1) (one_start at v.0 v.2) v.3)));
      }

-- walks over a board whose cells are all open lead everywhere
beside_step : (connectivity : Connectivity) (a b : ℕ × ℕ) → AreBeside a b → IsStep connectivity a b
beside_step Four a b h = h
beside_step Eight a b h = inl h

module _ (connectivity : Connectivity) (mask : List (List Bool)) where
  module _ (rows cols : ℕ) (all : (a : ℕ × ℕ) → a.0 < rows → a.1 < cols → IsOpen mask a) where
    from_corner : (r c : ℕ) → r < rows → c < cols → (k : ℕ) × Walk connectivity mask (0, 0) (r, c) k
    from_corner zero zero lr lc = (0, (refl, all (0, 0) lr lc))
    from_corner zero (suc c) lr lc =
        let v = from_corner zero c lr (omega arith) in
        (suc v.0, ((0, c), v.1, beside_step connectivity (0, c) (0, suc c) (inl (refl, inl (add-one c))), all (0, suc c) lr lc))
    from_corner (suc r) c lr lc =
        let v = from_corner r c (omega arith) lc in
        (suc v.0, ((r, c), v.1, beside_step connectivity (r, c) (suc r, c) (inr (refl, inl (add-one r))), all (suc r, c) lr lc))

    everywhere : (a b : ℕ × ℕ) → a.0 < rows → a.1 < cols → b.0 < rows → b.1 < cols → (k : ℕ) × Walk connectivity mask a b k
    everywhere a b ar ac br bc =
        let v = from_corner a.0 a.1 ar ac in
        let w = from_corner b.0 b.1 br bc in
        walk_append connectivity mask v.0 w.0 a (0, 0) b (walk_back connectivity mask v.0 (0, 0) a v.1) w.1

-- a whole board of cells equal to x, written
pub IsFilled-board : {T : Type 0} (eq : T → T → Bool) (x : T) (connectivity : Connectivity) (at : ℕ × ℕ) (w : T) (t u : List (List T)) → IsTable t → IsTable u → HaveOneSize u t → InRange t at.0 at.1 → ((a : ℕ × ℕ) → InRange t a.0 a.1 → IsOpen (alike eq x t) a) → ((a : ℕ × ℕ) → InRange t a.0 a.1 → cell u a.0 a.1 ≡ Some w) → IsFilled connectivity (alike eq x t) at w t u
IsFilled-board eq x connectivity at w t u table table' size here all cells =
    record {
      filled = λ b n walk.
          let v = alike_open eq x t table b (open_end connectivity (alike eq x t) n at b walk) in
          cells b (cell_in_range t table b.0 b.1 v.0 v.1);
      kept = λ b none.
          let er = size.rows in
          let ec = size.cols in
          ⊎_elim (λ lr.
          ⊎_elim (λ lc.
          let v = everywhere connectivity (alike eq x t) (row_count t) (col_count t) (λ a r c. all a (r, c)) at b here.0 here.1 lr lc in
          absurd (none v.0 v.1))
          (λ ge. past_cols u table' b.0 b.1 (omega arith) ∙ sym (past_cols t table b.0 b.1 ge))
          (cases_lt b.1 (col_count t)))
          (λ ge. cell_past_rows u b.0 b.1 (omega arith) ∙ sym (cell_past_rows t b.0 b.1 ge))
          (cases_lt b.0 (row_count t));
    }

-- the cells that a closure makes which returns one value
some_is : {T : Type 0} (w : T) (o : Option T) (P : T → Type 0) → IsSomeAnd o P → ((y : T) → P y → y ≡ w) → o ≡ Some w
some_is w None P h says = absurd h
some_is w (Some y) P h says = ap Some (says y h)

pub cells_mapped : {F T : Type 0} (returns : F → ℕ × ℕ → Bor T → T → Type 0) (f : F) (t u : List (List T)) (w : T) → MappedBy returns f t u → ((a : ℕ × ℕ) (p : Bor T) (y : T) → returns f a p y → y ≡ w) → (a : ℕ × ℕ) → InRange t a.0 a.1 → cell u a.0 a.1 ≡ Some w
cells_mapped returns f t u w m says a here =
    some_is w (cell u a.0 a.1) _ (m.answers a.0 a.1 here) (λ y h. says a h.0 y h.2)

-- each index of a line comes at some place, outward from any
pub outward_at : (from c n : ℕ) → from < n → c < n → (i : ℕ) × (i < n) × (i ≤ from → c + i ≡ from) × (from < i → c ≡ i)
outward_at from c n lf lc =
    ⊎_elim (λ up. (c, lc, λ le. absurd (omega arith), λ lt. refl))
    (λ down. (from - c, omega arith, λ le. omega arith, λ lt. absurd (omega arith)))
    (cases_lt from c)

pub one_outward : (from i c d : ℕ) → (i ≤ from → c + i ≡ from) → (from < i → c ≡ i) → (i ≤ from → d + i ≡ from) → (from < i → d ≡ i) → d ≡ c
one_outward from i c d c_down c_up d_down d_up =
    ⊎_elim (λ lt. d_up lt ∙ sym (c_up lt)) (λ le. let e = c_down le in let f = d_down le in omega arith) (cases_lt from i)
