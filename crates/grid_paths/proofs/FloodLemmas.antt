-- A search that goes on from what it took, until it has gone around all: what it took is a flood.
use Rattle.std.proofs.Common.{◌≡◌, ℕ, zero, suc, ◌+◌, ◌<◌, ◌≤◌, ◌⊎◌, Bool, true, false, cond, Option, None, Some, List, [], length, Contains, refl, sym, ◌∙◌, ap, subst, arith, inr, ⊎_elim, option_map, slice_get}
use Rattle.grid_paths.proofs.Common.{cases_lt, slice_get_within, slice_get-map, cell, row_count, col_count, IsTable, tabulate-same, tabulate-cells, IsFull-cells, IsStep, answers_by, IsEntered, IsGoneOn, EnterWalk, IsFlood, way_of, places, IsLeft, undone, AreMarked, IsWritten, TakesAll}
use Rattle.grid_near.specs.declared.steps.Connectivity.{Connectivity}
use Rattle.grid_paths.specs.declared.taken.Enter.{Enter}
use Rattle.grid_paths.specs.declared.taken.Enter.TheVariants.{No, Stop, On}
use Rattle.grid_paths.proofs.AlikeLemmas.{mapped-cell}
use Rattle.grid_paths.proofs.AroundLemmas.{Contains-from_get, place_of}
use Rattle.grid_paths.proofs.TakenLemmas.{cell-undone_other}

map_some : {X Y : Type 0} (f : X → Y) (o : Option X) (y : Y) → option_map f o ≡ Some y → (x : X) × (o ≡ Some x) × (f x ≡ y)
map_some f None y e = absurd (cc)
map_some f (Some x) y e = let same : f x ≡ y = cc in (x, refl, same)

one_cell : {X : Type 0} (o : Option X) (x y : X) → o ≡ Some x → o ≡ Some y → x ≡ y
one_cell o x y e f = let both : Some x ≡ Some y = sym e ∙ f in cc

-- the position of an item, and the item at a position
pub places_at : {T : Type 0} (q : List ((ℕ × ℕ) × T)) (j : ℕ) (x : (ℕ × ℕ) × T) → slice_get q j ≡ Some x → slice_get (places q) j ≡ Some x.0
places_at q j x h = slice_get-map (λ y. y.0) q j ∙ ap (λ o. option_map (λ y. y.0) o) h

pub at_places : {T : Type 0} (q : List ((ℕ × ℕ) × T)) (j : ℕ) (a : ℕ × ℕ) → slice_get (places q) j ≡ Some a → (x : (ℕ × ℕ) × T) × (slice_get q j ≡ Some x) × (x.0 ≡ a)
at_places q j a h = map_some (λ y. y.0) (slice_get q j) a (sym (slice_get-map (λ y. y.0) q j) ∙ h)

module _ {T : Type 0} (way : T → Enter) (t0 : List (List T)) (table : IsTable t0) where
  pub entered_by : (a : ℕ × ℕ) (x : T) → IsLeft way t0 a x → IsEntered (answers_by way t0) a
  entered_by a x h =
      (way x, mapped-cell way t0 table a.0 a.1 ∙ ap (λ o. option_map way o) h.0, h.1)

  pub left_by : (a : ℕ × ℕ) → IsEntered (answers_by way t0) a → (x : T) × IsLeft way t0 a x
  left_by a h =
      let v = map_some way (cell t0 a.0 a.1) h.0 (sym (mapped-cell way t0 table a.0 a.1) ∙ h.1) in
      (v.0, (v.1, λ e. h.2 (sym v.2 ∙ e)))

  pub gone_on_by : (a : ℕ × ℕ) (x : T) → cell t0 a.0 a.1 ≡ Some x → way x ≡ On → IsGoneOn (answers_by way t0) a
  gone_on_by a x e on =
      mapped-cell way t0 table a.0 a.1 ∙ (ap (λ o. option_map way o) e ∙ ap Some on)

  on_by : (a : ℕ × ℕ) (x : T) → cell t0 a.0 a.1 ≡ Some x → IsGoneOn (answers_by way t0) a → way x ≡ On
  on_by a x e h =
      let v = map_some way (cell t0 a.0 a.1) On (sym (mapped-cell way t0 table a.0 a.1) ∙ h) in
      ap way (one_cell (cell t0 a.0 a.1) x v.0 e v.1) ∙ v.2

-- the flood from some positions, gone around what was taken before `next`
pub record IsTaking {T : Type 0} (way : T → Enter) (mark : T) (connectivity : Connectivity) (starts : List (ℕ × ℕ)) (t0 t : List (List T)) (q : List ((ℕ × ℕ) × T)) (next : ℕ) : Type 0 where
  pub inside : (a : ℕ × ℕ) (x : T) → IsLeft way t a x → IsLeft way t0 a x
  pub all : (a : ℕ × ℕ) (x : T) → IsLeft way t0 a x → IsLeft way t a x ⊎ ((j : ℕ) × (y : T) × (slice_get q j ≡ Some (a, y)))
  pub was : (j : ℕ) (x : (ℕ × ℕ) × T) → slice_get q j ≡ Some x → IsLeft way t0 x.0 x.1
  pub walk : (j : ℕ) (x : (ℕ × ℕ) × T) → slice_get q j ≡ Some x → (from : ℕ × ℕ) × (n : ℕ) × Contains starts from × EnterWalk connectivity (answers_by way t0) from x.0 n
  pub done : (j : ℕ) (x : (ℕ × ℕ) × T) (b : ℕ × ℕ) (y : T) → j < next → slice_get q j ≡ Some x → way x.1 ≡ On → IsStep connectivity x.0 b → IsLeft way t b y → ⊥
  pub start : (a : ℕ × ℕ) (x : T) → Contains starts a → IsLeft way t a x → ⊥
  pub marked : AreMarked way mark t q

module _ {T : Type 0} {way : T → Enter} {mark : T} {connectivity : Connectivity} {starts : List (ℕ × ℕ)} {t0 : List (List T)} (table : IsTable t0) where
  pub IsTaking-start : (t : List (List T)) (q : List ((ℕ × ℕ) × T)) → TakesAll way mark (λ a. Contains starts a) t0 [] t q → IsTaking way mark connectivity starts t0 t q 0
  IsTaking-start t q w =
      let s = w.takes in
      record {
        inside = s.fewer;
        all = s.all;
        was = λ j x h. ⊎_elim (λ none. absurd (cc)) (λ v. v.2) (s.fresh_at j x h);
        walk = λ j x h.
            ⊎_elim (λ none. absurd (cc)) (λ v. (x.0, 0, v.1, (refl, entered_by way t0 table x.0 x.1 v.2))) (s.fresh_at j x h);
        done = λ j x b y lt. absurd (omega (arith, lt));
        start = λ a x c l. w.around a x c l;
        marked = s.marked (record { marked = λ j x h. absurd (cc); once = λ i j x y h. absurd (cc) });
      }

  module _ {t : List (List T)} {q : List ((ℕ × ℕ) × T)} {next : ℕ} (s : IsTaking way mark connectivity starts t0 t q next) where
    module _ {x : (ℕ × ℕ) × T} {t' : List (List T)} {q' : List ((ℕ × ℕ) × T)} (place : slice_get q next ≡ Some x) (w : TakesAll way mark (λ a. (way x.1 ≡ On) × IsStep connectivity x.0 a) t q t' q') where
      done' : (j : ℕ) (z : (ℕ × ℕ) × T) (b : ℕ × ℕ) (y : T) → j < next + 1 → slice_get q' j ≡ Some z → way z.1 ≡ On → IsStep connectivity z.0 b → IsLeft way t' b y → ⊥
      done' j z b y lt h on step l =
          ⊎_elim (λ h0.
          ⊎_elim (λ less. s.done j z b y less h0 on step (w.takes.fewer b y l))
          (λ ge.
          let j_is : j ≡ next = omega arith in
          let same : z ≡ x = one_cell (slice_get q next) z x (subst (λ v. slice_get q v ≡ Some z) j_is h0) place in
          w.around b y (subst (λ v. (way v.1 ≡ On) × IsStep connectivity v.0 b) same (on, step)) l)
          (cases_lt j next))
          (λ v.
          let low : length q ≤ j = v.0 in
          let in_q : next < length q = slice_get_within q next x place in
          absurd (omega arith))
          (w.takes.fresh_at j z h)

      pub IsTaking-round : IsTaking way mark connectivity starts t0 t' q' (next + 1)
      IsTaking-round =
          record {
            inside = λ a y l. s.inside a y (w.takes.fewer a y l);
            all = λ a y l0. ⊎_elim (λ l. w.takes.all a y l) (λ v. inr (v.0, v.1, w.takes.kept_at v.0 (a, v.1) v.2)) (s.all a y l0);
            was = λ j z h. ⊎_elim (λ h0. s.was j z h0) (λ v. s.inside z.0 z.1 v.2) (w.takes.fresh_at j z h);
            walk = λ j z h.
                ⊎_elim (λ h0. s.walk j z h0)
                (λ v.
                let u = s.walk next x place in
                let on = gone_on_by way t0 table x.0 x.1 (s.was next x place).0 v.1.0 in
                (u.0, suc u.1, u.2, (x.0, u.3, on, v.1.1, entered_by way t0 table z.0 z.1 (s.inside z.0 z.1 v.2))))
                (w.takes.fresh_at j z h);
            done = done';
            start = λ a y c l. s.start a y c (w.takes.fewer a y l);
            marked = w.takes.marked s.marked;
          }

    module _ (end : length q ≤ next) where
      found : (from a : ℕ × ℕ) (n : ℕ) → Contains starts from → EnterWalk connectivity (answers_by way t0) from a n → (j : ℕ) × (y : T) × (slice_get q j ≡ Some (a, y))
      found from a zero c w =
          let v = left_by way t0 table a w.1 in
          ⊎_elim (λ l. absurd (s.start a v.0 (subst (λ b. Contains starts b) w.0 c) l)) (λ h. h) (s.all a v.0 v.1)
      found from a (suc n) c w =
          let v = left_by way t0 table a w.4 in
          let u = found from w.0 n c w.1 in
          let lt : u.0 < length q = slice_get_within q u.0 (w.0, u.1) u.2 in
          let on = on_by way t0 table w.0 u.1 (s.was u.0 (w.0, u.1) u.2).0 w.2 in
          ⊎_elim (λ l. absurd (s.done u.0 (w.0, u.1) a v.0 (omega arith) u.2 on w.3 l)) (λ h. h) (s.all a v.0 v.1)

      pub IsFlood-end : IsFlood connectivity (answers_by way t0) starts (places q)
      IsFlood-end =
          record {
            walk = λ a c.
                let v = place_of (places q) a c in
                let x = at_places q v.0 a v.1 in
                subst (λ b. (from : ℕ × ℕ) × (n : ℕ) × Contains starts from × EnterWalk connectivity (answers_by way t0) from b n) x.2 (s.walk v.0 x.0 x.1);
            whole = λ from a n c w.
                let v = found from a n c w in Contains-from_get (places q) v.0 a (places_at q v.0 (a, v.1) v.2);
            once = λ i j a h k.
                let x = at_places q i a h in
                let y = at_places q j a k in
                s.marked.once i j x.0 y.0 x.1 y.1 (x.2 ∙ sym y.2);
          }

      -- what was taken is marked, and nothing else has changed
      pub IsWritten-end : undone q t ≡ t0 → IsWritten mark (λ a. Contains (places q) a) t0 t
      IsWritten-end saved =
          record {
            written = λ a c.
                let v = place_of (places q) a c in
                let x = at_places q v.0 a v.1 in
                subst (λ b. cell t b.0 b.1 ≡ Some mark) x.2 (s.marked.marked v.0 x.0 x.1);
            kept = λ a out.
                sym (cell-undone_other q t a (λ j x h. out (Contains-from_get (places q) j a (places_at q j (a, x) h))))
                ∙ ap (λ v. cell v a.0 a.1) saved;
          }

-- what a function that changes nothing answers
map_same : {T : Type 0} (p : T → T) → ((x : T) → p x ≡ x) → (o : Option T) → option_map p o ≡ o
map_same p same None = refl
map_same p same (Some x) = ap Some (same x)

pub answers-same : {T : Type 0} (p : T → T) → ((x : T) → p x ≡ x) → (t : List (List T)) → IsTable t → answers_by p t ≡ t
answers-same p same t table =
    tabulate-same (row_count t) (col_count t) (λ r c. option_map p (cell t r c)) (cell t) (λ r c lr lc. map_same p same (cell t r c)) (IsFull-cells t table)
    ∙ tabulate-cells t table

-- a search that tells the three apart does what they say
pub way-same : (eq : Enter → Enter → Bool) → eq No On ≡ false → eq No Stop ≡ false → eq Stop On ≡ false → eq Stop Stop ≡ true → eq On On ≡ true → (x : Enter) → way_of eq On (Some Stop) x ≡ x
way-same eq on_no no_stop stop_on stop on No = ap (λ b. cond b On (cond (eq No Stop) Stop No)) on_no ∙ ap (λ b. cond b Stop No) no_stop
way-same eq on_no no_stop stop_on stop on Stop = ap (λ b. cond b On (cond (eq Stop Stop) Stop No)) stop_on ∙ ap (λ b. cond b Stop No) stop
way-same eq on_no no_stop stop_on stop on On = ap (λ b. cond b On (cond (eq On Stop) Stop No)) on
