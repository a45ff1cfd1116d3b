-- One position marked, those of a list, those around a position, and the start.
use Rattle.std.proofs.Common.{◌≡◌, ◌≢◌, ℕ, zero, suc, ◌+◌, ◌^◌, ◌<◌, ◌≤◌, ◌⊎◌, Bool, Option, None, Some, List, [], ◌∷◌, ◌++◌, length, Contains, set, get_or, refl, sym, ◌∙◌, ap, subst, arith, rules, inl, inr, ⊎_elim, ◌↔◌, sum_by, slice_get, length-append}
use Rattle.grid_paths.proofs.Common.{cases_eq, cases_lt, sum_by-set, slice_get_within, get_or_from_slice_get, row, row_count, col_count, cell, with_cell, tabulate, IsTable, IsFull, cell-tabulate, rows-tabulate, cell_past_rows, cell_past_cols, cell_in_range, cell-with_same, cell-with_other, IsOpen, IsStep, IsMarked, IsAt, IsReached, Spread, WentAround, free, unreached, AreSteps, Marks, Spreads}
use Rattle.grid_base.proofs.Common.{InRange}
use Rattle.grid_near.specs.declared.steps.Connectivity.{Connectivity}
use Rattle.grid_paths.specs.declared.bfs.Bfs.{Bfs}
use Rattle.grid_paths.proofs.AroundLemmas.{same_pair, none_in, contains_next}
use Rattle.grid_paths.proofs.SearchLemmas.{IsSearch, one_mark, IsSearch-spread}

-- a position in range of a table is so of another of its size
pub in_range_as : {X Y : Type 0} (t : List (List X)) (u : List (List Y)) → row_count u ≡ row_count t → col_count u ≡ col_count t → (a : ℕ × ℕ) → InRange t a.0 a.1 → InRange u a.0 a.1
in_range_as t u rows cols a i = (subst (λ n. a.0 < n) (sym rows) i.0, subst (λ n. a.1 < n) (sym cols) i.1)

-- a queue with one item more
pub at_push : {X : Type 0} (queue : List X) (b : X) (j : ℕ) (a : X) → slice_get queue j ≡ Some a → slice_get (queue ++ b ∷ []) j ≡ Some a
at_push [] b j a h = absurd (cc)
at_push (x ∷ queue) b zero a h = h
at_push (x ∷ queue) b (suc j) a h = at_push queue b j a h

pub at_end : {X : Type 0} (queue : List X) (b : X) → slice_get (queue ++ b ∷ []) (length queue) ≡ Some b
at_end [] b = refl
at_end (x ∷ queue) b = at_end queue b

pub at_push_fresh : {X : Type 0} (queue : List X) (b : X) (j : ℕ) (a : X) → slice_get (queue ++ b ∷ []) j ≡ Some a → ((j ≡ length queue) × (a ≡ b)) ⊎ (slice_get queue j ≡ Some a)
at_push_fresh [] b zero a h = let e : a ≡ b = cc in inl (refl, e)
at_push_fresh [] b (suc j) a h = absurd (cc)
at_push_fresh (x ∷ queue) b zero a h = inr h
at_push_fresh (x ∷ queue) b (suc j) a h =
    ⊎_elim (λ e. inl (ap suc e.0, e.1)) (λ h0. inr h0) (at_push_fresh queue b j a h)

-- one position more is marked, and is at the end of the queue
pub record Grew (steps : List (List (Option ℕ))) (queue : List (ℕ × ℕ)) (steps' : List (List (Option ℕ))) (queue' : List (ℕ × ℕ)) (b : ℕ × ℕ) (k : ℕ) : Type 0 where
  pub kept : (a : ℕ × ℕ) (m : ℕ) → IsMarked steps a m → IsMarked steps' a m
  pub fresh : (a : ℕ × ℕ) (m : ℕ) → IsMarked steps' a m → ((a ≡ b) × (m ≡ k)) ⊎ IsMarked steps a m
  pub here : IsMarked steps' b k
  pub kept_at : (j : ℕ) (a : ℕ × ℕ) → IsAt queue j a → IsAt queue' j a
  pub fresh_at : (j : ℕ) (a : ℕ × ℕ) → IsAt queue' j a → ((j ≡ length queue) × (a ≡ b)) ⊎ IsAt queue j a
  pub here_at : IsAt queue' (length queue) b

module _ (steps : List (List (Option ℕ))) (h : IsTable steps) (queue : List (ℕ × ℕ)) (b : ℕ × ℕ) (k : ℕ) (inside : InRange steps b.0 b.1) (is_free : cell steps b.0 b.1 ≡ Some None) where
  -- a marked position isn't this one
  not_marked : (a : ℕ × ℕ) (m : ℕ) → IsMarked steps a m → a.0 ≡ b.0 → a.1 ≢ b.1
  not_marked a m w e f =
      let at : cell steps a.0 a.1 ≡ cell steps b.0 b.1 = ap (λ x. cell steps x a.1) e ∙ ap (λ y. cell steps b.0 y) f in
      let clash : ◌≡◌ {A = Option (Option ℕ)} (Some None) (Some (Some m)) = sym is_free ∙ (sym at ∙ w) in
      cc

  there : IsMarked (with_cell steps b.0 b.1 (Some k)) b k
  there = cell-with_same steps h b.0 b.1 (Some k) inside.0 inside.1

  fresh_mark : (a : ℕ × ℕ) (m : ℕ) → IsMarked (with_cell steps b.0 b.1 (Some k)) a m → ((a ≡ b) × (m ≡ k)) ⊎ IsMarked steps a m
  fresh_mark a m w =
      ⊎_elim (λ e.
      ⊎_elim (λ f.
      let is : a ≡ b = same_pair a b e f in
      inl (is, one_mark (with_cell steps b.0 b.1 (Some k)) b m k (subst (λ x. IsMarked (with_cell steps b.0 b.1 (Some k)) x m) is w) there))
      (λ ne. inr (sym (cell-with_other steps b.0 b.1 (Some k) a.0 a.1 (λ _. ne)) ∙ w))
      (cases_eq a.1 b.1))
      (λ ne. inr (sym (cell-with_other steps b.0 b.1 (Some k) a.0 a.1 (λ e. absurd (ne e))) ∙ w))
      (cases_eq a.0 b.0)

  pub grown : Grew steps queue (with_cell steps b.0 b.1 (Some k)) (queue ++ b ∷ []) b k
  grown =
      record {
        kept = λ a m w. cell-with_other steps b.0 b.1 (Some k) a.0 a.1 (not_marked a m w) ∙ w;
        fresh = fresh_mark;
        here = there;
        kept_at = λ j a w. at_push queue b j a w;
        fresh_at = λ j a w. at_push_fresh queue b j a w;
        here_at = at_end queue b;
      }

  pub unreached-with_cell : unreached (with_cell steps b.0 b.1 (Some k)) + 1 ≡ unreached steps
  unreached-with_cell =
      let xs = row steps b.0 in
      let lt : b.1 < length xs = slice_get_within xs b.1 None is_free in
      let was : get_or xs b.1 None ≡ None = get_or_from_slice_get xs b.1 None None is_free in
      let one : free (get_or xs b.1 None) ≡ 1 = ap free was in
      let cells = sum_by-set free xs b.1 (Some k) None lt in
      let rows = sum_by-set (sum_by free) steps b.0 (set xs b.1 (Some k)) [] inside.0 in
      omega arith

-- a position marked
module _ {A : Type 0} {b : ℕ × ℕ} {k : ℕ} {w w' : Bfs A} (is_free : cell w.numbers.rows b.0 b.1 ≡ Some None) (m : Marks b k w w') where
  inside : InRange w.numbers.rows b.0 b.1
  inside = cell_in_range w.numbers.rows w.numbers.table b.0 b.1 None is_free

  pub Marks-grew : Grew w.numbers.rows w.queue.items w'.numbers.rows w'.queue.items b k
  Marks-grew =
      subst (λ q. Grew w.numbers.rows w.queue.items w'.numbers.rows q b k) (sym m.queue)
      (subst (λ u. Grew w.numbers.rows w.queue.items u (w.queue.items ++ b ∷ []) b k) (sym m.numbers)
      (grown w.numbers.rows w.numbers.table w.queue.items b k inside is_free))

  pub Marks-fewer : unreached w'.numbers.rows + 1 ≡ unreached w.numbers.rows
  Marks-fewer = ap (λ u. unreached u + 1) m.numbers ∙ unreached-with_cell w.numbers.rows w.numbers.table w.queue.items b k inside is_free

  pub Spreads-mark : (mask : List (List Bool)) → IsOpen mask b → Spreads (λ a. b ≡ a) mask k w w'
  Spreads-mark mask is_open =
      let q = w.queue.items in
      let q' = w'.queue.items in
      let g = Marks-grew in
      let fewer = Marks-fewer in
      let long : length q' ≡ length q + 1 = ap length m.queue ∙ length-append q (b ∷ []) in
      record {
        same = m.same;
        round = record {
          spread = record {
            kept = g.kept;
            fresh = λ a m h.
                ⊎_elim (λ e.
                inr (record {
                  is = e.1;
                  is_open = subst (λ x. IsOpen mask x) (sym e.0) is_open;
                  is_near = sym e.0;
                  queued = (length q, omega arith, subst (λ x. IsAt q' (length q) x) (sym e.0) g.here_at);
                }))
                (λ h0. inl h0)
                (g.fresh a m h);
            kept_at = g.kept_at;
            old_at = λ j a lt h.
                ⊎_elim (λ e. let clash : j ≡ length q = e.0 in absurd (omega arith)) (λ h0. h0) (g.fresh_at j a h);
            fresh_at = λ j a le h.
                ⊎_elim (λ e. subst (λ x. IsMarked w'.numbers.rows x k) (sym e.1) g.here)
                (λ h0. let lt = slice_get_within q j a h0 in absurd (omega arith))
                (g.fresh_at j a h);
            longer = omega arith;
            total = omega arith;
          };
          around = λ a is o. (k, subst (λ x. IsMarked w'.numbers.rows x k) is g.here);
        };
      }

module _ {A : Type 0} {mask : List (List Bool)} {k : ℕ} where
  -- no position is marked where the near ones that are open have a number
  pub Spreads-stay : (near : ℕ × ℕ → Type 0) (w : Bfs A) → ((b : ℕ × ℕ) → near b → IsOpen mask b → (m : ℕ) × IsMarked w.numbers.rows b m) → Spreads near mask k w w
  Spreads-stay near w around =
      record {
        same = record { rows = refl; cols = refl; order = refl };
        round = record {
          spread = record {
            kept = λ a m h. h;
            fresh = λ a m h. inl h;
            kept_at = λ j a h. h;
            old_at = λ j a lt h. h;
            fresh_at = λ j a le h. let lt = slice_get_within w.queue.items j a h in absurd (omega arith);
            longer = omega arith;
            total = refl;
          };
          around = around;
        };
      }

  -- some positions and then others
  module _ {near0 near1 : ℕ × ℕ → Type 0} {w0 w1 w2 : Bfs A} (e0 : Spreads near0 mask k w0 w1) (e1 : Spreads near1 mask k w1 w2) where
    s : Spread near0 mask k w0.numbers.rows w0.queue.items w1.numbers.rows w1.queue.items
    s = e0.round.spread

    t : Spread near1 mask k w1.numbers.rows w1.queue.items w2.numbers.rows w2.queue.items
    t = e1.round.spread

    fresh : (a : ℕ × ℕ) (m : ℕ) → IsMarked w2.numbers.rows a m → IsMarked w0.numbers.rows a m ⊎ IsReached (λ a. near0 a ⊎ near1 a) mask k w0.queue.items w2.queue.items a m
    fresh a m h =
        let le = s.longer in
        ⊎_elim (λ h1.
        ⊎_elim (λ h0. inl h0)
        (λ f. let v = f.queued in
        inr (record { is = f.is; is_open = f.is_open; is_near = inl f.is_near; queued = (v.0, v.1, t.kept_at v.0 a v.2) }))
        (s.fresh a m h1))
        (λ f. let v = f.queued in let up : length w1.queue.items ≤ v.0 = v.1 in
        inr (record { is = f.is; is_open = f.is_open; is_near = inr f.is_near; queued = (v.0, omega arith, v.2) }))
        (t.fresh a m h)

    Spreads-join : Spreads (λ a. near0 a ⊎ near1 a) mask k w0 w2
    Spreads-join =
        let le = s.longer in
        let le2 = t.longer in
        record {
          same = record { rows = e1.same.rows ∙ e0.same.rows; cols = e1.same.cols ∙ e0.same.cols; order = e1.same.order ∙ e0.same.order };
          round = record {
            spread = record {
              kept = λ a m h. t.kept a m (s.kept a m h);
              fresh = fresh;
              kept_at = λ j a h. t.kept_at j a (s.kept_at j a h);
              old_at = λ j a lt h. s.old_at j a lt (t.old_at j a (omega arith) h);
              fresh_at = λ j a low h.
                  ⊎_elim (λ lt. t.kept a k (s.fresh_at j a low (t.old_at j a lt h))) (λ ge. t.fresh_at j a ge h) (cases_lt j (length w1.queue.items));
              longer = omega arith;
              total = t.total ∙ s.total;
            };
            around = λ a is o. ⊎_elim (λ n. let v = e0.round.around a n o in (v.0, t.kept a v.0 v.1)) (λ n. e1.round.around a n o) is;
          };
        }

  -- the same seen as positions that are near in another sense, where they are open and not reached before
  Spreads-as : (near wide : ℕ × ℕ → Type 0) {w w' : Bfs A} → ((b : ℕ × ℕ) → IsOpen mask b → (near b ↔ wide b) ⊎ ((m : ℕ) × IsMarked w.numbers.rows b m)) → Spreads near mask k w w' → Spreads wide mask k w w'
  Spreads-as near wide {w = w} {w' = w'} same e =
      let s = e.round.spread in
      record {
        same = e.same;
        round = record {
          spread = record {
            kept = s.kept;
            fresh = λ a m h.
                ⊎_elim (λ h0. inl h0)
                (λ f.
                ⊎_elim (λ e. inr (record { is = f.is; is_open = f.is_open; is_near = e.0 f.is_near; queued = f.queued }))
                (λ old. inl (subst (λ x. IsMarked w.numbers.rows a x) (one_mark w'.numbers.rows a old.0 m (s.kept a old.0 old.1) h) old.1))
                (same a f.is_open))
                (s.fresh a m h);
            kept_at = s.kept_at;
            old_at = s.old_at;
            fresh_at = s.fresh_at;
            longer = s.longer;
            total = s.total;
          };
          around = λ b h o.
              ⊎_elim (λ v. e.round.around b (v.1 h) o) (λ old. (old.0, s.kept b old.0 old.1)) (same b o);
        };
      }

  -- the positions of a list, one after another
  pub Spreads-none : (w : Bfs A) → Spreads (λ b. Contains [] b) mask k w w
  Spreads-none w = Spreads-stay (λ b. Contains [] b) w (λ b h o. absurd (none_in b h))

  pub Spreads-next : {b : ℕ × ℕ} (xs : List (ℕ × ℕ)) {w0 w1 w2 : Bfs A} → Spreads (λ a. b ≡ a) mask k w0 w1 → Spreads (λ a. Contains xs a) mask k w1 w2 → Spreads (λ a. Contains (b ∷ xs) a) mask k w0 w2
  Spreads-next {b = b} xs one rest =
      Spreads-as (λ a. (b ≡ a) ⊎ Contains xs a) (λ a. Contains (b ∷ xs) a) (λ a o. inl (contains_next b xs a)) (Spreads-join one rest)

  -- the positions that a grid can have
  pub Spreads-steps : (connectivity : Connectivity) (at : ℕ × ℕ) (xs : List (ℕ × ℕ)) {w w' : Bfs A} → AreSteps connectivity at xs → ((b : ℕ × ℕ) → IsOpen mask b → ((b.0 + 1 < 2 ^ 64) × (b.1 + 1 < 2 ^ 64)) ⊎ ((m : ℕ) × IsMarked w.numbers.rows b m)) → Spreads (λ b. Contains xs b) mask k w w' → Spreads (IsStep connectivity at) mask k w w'
  Spreads-steps connectivity at xs steps fits e =
      Spreads-as (λ b. Contains xs b) (IsStep connectivity at) (λ b o. ⊎_elim (λ f. inl (steps b f.0 f.1)) (λ old. inr old) (fits b o)) e

-- the start: the first positions reached by no step, those that are open
module _ (connectivity : Connectivity) (mask : List (List Bool)) (starts : List (ℕ × ℕ)) (d0 : List (List (Option ℕ))) (none : (a : ℕ × ℕ) (m : ℕ) → IsMarked d0 a m → ⊥) where
  IsSearch-empty : IsSearch connectivity mask starts d0 [] 0
  IsSearch-empty =
      record {
        marked = λ j a h. absurd (nowhere j a h);
        listed = λ a n h. absurd (none a n h);
        sound = λ a n h. absurd (none a n h);
        ordered = λ i j a b m n le h. absurd (nowhere i a h);
        close = λ a m j b n le h. absurd (none a m h);
        done = λ j a n b lt h. absurd (nowhere j a h);
      }
    where
      nowhere : (j : ℕ) (a : ℕ × ℕ) → IsAt [] j a → ⊥
      nowhere j a h = cc

  module _ (d1 : List (List (Option ℕ))) (q1 : List (ℕ × ℕ)) (r : WentAround (λ a. Contains starts a) mask 0 d0 [] d1 q1) where
    pub IsSearch-start : IsSearch connectivity mask starts d1 q1 0
    IsSearch-start =
        IsSearch-spread connectivity mask starts (λ a. Contains starts a) d0 [] d1 q1 0 0 IsSearch-empty r.spread (omega arith) (λ b is o. (b, is, (refl, o)))
        (λ a m h. absurd (none a m h))
        (λ j a n le h m. absurd (none a n m)) (omega arith)

    pub start_reached : (from : ℕ × ℕ) → Contains starts from → IsOpen mask from → IsMarked d1 from 0
    start_reached from is o =
        let v = r.around from is o in
        ⊎_elim (λ h. absurd (none from v.0 h)) (λ f. subst (λ x. IsMarked d1 from x) f.is v.1) (r.spread.fresh from v.0 v.1)

-- an empty table of numbers has none
pub none_marked : (m n : ℕ) (a : ℕ × ℕ) (k : ℕ) → IsMarked (tabulate m n (λ r c. Some None)) a k → ⊥
none_marked m n a k w =
    ⊎_elim (λ lr.
    ⊎_elim (λ lc.
    let e : ◌≡◌ {A = Option (Option ℕ)} (Some None) (Some (Some k)) = sym (cell-tabulate m n (λ r c. Some None) a.0 a.1 full lr lc) ∙ w in
    cc)
    (λ ge.
    let e : ◌≡◌ {A = Option (Option ℕ)} None (Some (Some k)) = sym (cell_past_cols m n (λ r c. Some None) a.0 a.1 full lr ge) ∙ w in
    cc)
    (cases_lt a.1 n))
    (λ ge.
    let past : length (tabulate m n (λ r c. Some None)) ≤ a.0 = omega (arith, rows-tabulate {T = Option ℕ} m n (λ r c. Some None)) in
    let e : ◌≡◌ {A = Option (Option ℕ)} None (Some (Some k)) = sym (cell_past_rows (tabulate m n (λ r c. Some None)) a.0 a.1 past) ∙ w in
    cc)
    (cases_lt a.0 m)
  where
    full : IsFull {T = Option ℕ} m n (λ r c. Some None)
    full = record { full = λ r c lr lc. search rules }

pub none_at : (m n r c : ℕ) → r < m → c < n → ◌≡◌ {A = Option (Option ℕ)} (cell (tabulate m n (λ r c. Some None)) r c) (Some None)
none_at m n r c lr lc = cell-tabulate {T = Option ℕ} m n (λ r c. Some None) r c full lr lc
  where
    full : IsFull {T = Option ℕ} m n (λ r c. Some None)
    full = record { full = λ r c lr lc. search rules }
