-- The cells of a ray passed one by one: up to the first that passes a test, and while they are alike.
use Rattle.std.proofs.Common.{◌≡◌, ℕ, suc, min, ◌+◌, ◌-◌, ◌<◌, ◌≤◌, Bool, IsTrue, true, false, Some, List, [], ◌∷◌, length, drop, get_or, slice_get, sym, ◌∙◌, ap, subst, arith, add-one, drop-cons, length-drop, Bor, ⊎_elim}
use Rattle.std.proofs.lemmas.Bool.{cases_lt}
use Rattle.std.proofs.lemmas.Option.{slice_get-get_or, slice_get_within}
use Rattle.grid_base.specs.Table.{cell, row_count, col_count, IsTable, InRange}
use Rattle.grid_base.proofs.TableLemmas.{cell_in_range}
use Rattle.grid_near.specs.declared.direction.Direction.{Direction}
use Rattle.grid_near.specs.Directions.{box_of, IsWithin}
use Rattle.grid_rays.specs.Rays.{IsAhead, IsRay}
use Rattle.grid_rays.specs.Along.{IsFirstAlong, NoneWithin, IsAlike, AreAlikeUpTo}
use Rattle.grid_rays.specs.Steps.{Reaches}

-- a list of which `done` items are passed
module _ {X : Type 0} (whole : List X) (done : ℕ) (x : X) (rest after : List X) (left : drop done whole ≡ rest) (first : rest ≡ x ∷ after) where
  pub within : done < length whole
  within = omega (arith, length-drop done whole, ap length left, ap length first)

  parts : get_or whole done x ∷ drop (suc done) whole ≡ x ∷ after
  parts = sym (drop-cons whole done x within) ∙ (left ∙ first)

  pub item_there : slice_get whole done ≡ Some x
  item_there =
      let head : get_or whole done x ≡ x = cc parts in slice_get-get_or whole done x within ∙ ap Some head

  pub one_more : drop (done + 1) whole ≡ after
  one_more = let tail : drop (suc done) whole ≡ after = cc parts in ap (λ n. drop n whole) (add-one done) ∙ tail

pub all_passed : {X : Type 0} (whole : List X) (done : ℕ) → drop done whole ≡ [] → length whole ≤ done
all_passed whole done e = omega (arith, length-drop done whole, ap length e)

-- a position is one alone
one_ahead : (way : Direction) (k : ℕ) (at p q : ℕ × ℕ) → IsAhead way k at p → IsAhead way k at q → p ≡ q
one_ahead way k at p q h g =
    let row : p.0 ≡ q.0 = omega (arith, h.0, g.0) in
    let col : p.1 ≡ q.1 = omega (arith, h.1, g.1) in
    ap (λ r. (r, p.1)) row ∙ ap (λ c. (q.0, c)) col

-- of the items of a ray those before `rest` were passed, and f answered false at each
pub record IsPassing {F T : Type 0} (whole : List ((ℕ × ℕ) × T)) (returns : F → Bor T → Bool → Type 0) (f : F) (rest : List ((ℕ × ℕ) × T)) : Type 0 where
  pub done : ℕ
  pub left : drop done whole ≡ rest
  pub none : (k : ℕ) (x : (ℕ × ℕ) × T) → k < done → slice_get whole k ≡ Some x
      → (p : Bor T) × (p.now ≡ x.1) × returns f p false

module _ {T : Type 0} (t : List (List T)) (way : Direction) (at : ℕ × ℕ) (whole : List ((ℕ × ℕ) × T)) (ray : IsRay t way at whole) where
  -- the item at a position that way
  item_at : (k : ℕ) (to : ℕ × ℕ) → InRange t at.0 at.1 → IsAhead way (k + 1) at to → InRange t to.0 to.1 → (x : T) × (slice_get whole k ≡ Some (to, x)) × (cell t to.0 to.1 ≡ Some x)
  item_at k to inside ahead in_range =
      let lt = ray.all k to inside ahead in_range in
      found (some_item whole k lt)
    where
      some_item : (xs : List ((ℕ × ℕ) × T)) (j : ℕ) → j < length xs → (x : (ℕ × ℕ) × T) × (slice_get xs j ≡ Some x)
      some_item [] j lt = absurd (omega arith)
      some_item (x ∷ xs) j lt = (get_or (x ∷ xs) j x, slice_get-get_or (x ∷ xs) j x lt)

      found : (x : (ℕ × ℕ) × T) × (slice_get whole k ≡ Some x) → (x : T) × (slice_get whole k ≡ Some (to, x)) × (cell t to.0 to.1 ≡ Some x)
      found w =
          let same : w.0.0 ≡ to = one_ahead way (k + 1) at w.0.0 to (ray.ahead k w.0 w.1) ahead in (
            w.0.1,
            w.1 ∙ ap (λ (q : ℕ × ℕ). Some (q, w.0.1)) same,
            subst (λ (q : ℕ × ℕ). cell t q.0 q.1 ≡ Some w.0.1) same (ray.there k w.0 w.1).1,
          )

  -- a search along the ray
  module _ {F : Type 0} (returns : F → Bor T → Bool → Type 0) (f : F) where
    pub IsPassing-start : (s : List ((ℕ × ℕ) × T)) → s ≡ whole → IsPassing whole returns f s
    IsPassing-start s is = record { done = 0; left = sym is; none = λ k x lt e. absurd (omega arith) }

    none_before : (done : ℕ) → ((k : ℕ) (x : (ℕ × ℕ) × T) → k < done → slice_get whole k ≡ Some x → (p : Bor T) × (p.now ≡ x.1) × returns f p false) → InRange t at.0 at.1 → NoneWithin returns f t way at (done + 1)
    none_before done passed inside k to some lt ahead in_range =
        let one : k ≡ k - 1 + 1 = omega arith in
        let w = item_at (k - 1) to inside (subst (λ n. IsAhead way n at to) one ahead) in_range in
        let n = passed (k - 1) (to, w.0) (omega arith) w.1 in
        (n.0, w.2 ∙ ap Some (sym n.1), n.2)

    module _ (rest after : List ((ℕ × ℕ) × T)) (to : ℕ × ℕ) (p : Bor T) (first : rest ≡ (to, p.now) ∷ after) (h : IsPassing whole returns f rest) where
      pub IsPassing-next : returns f p false → IsPassing whole returns f after
      IsPassing-next r = record {
        done = h.done + 1;
        left = one_more whole h.done (to, p.now) rest after h.left first;
        none = λ k x lt e.
            ⊎_elim (λ (old : k < h.done). h.none k x old e)
            (λ (new : h.done ≤ k).
            let same : h.done ≡ k = omega arith in
            let here : ◌≡◌ {A = (ℕ × ℕ) × T} (to, p.now) x = cc (item_there whole h.done (to, p.now) rest after h.left first, ap (slice_get whole) same, e) in
            (p, ap (λ z. z.1) here, r))
            (cases_lt k h.done);
      }

      pub IsPassing-found : returns f p true → IsFirstAlong returns f t way at to
      IsPassing-found r =
          let item = item_there whole h.done (to, p.now) rest after h.left first in
          let there = ray.there h.done (to, p.now) item in
          record {
            from_in = ray.none (omega (arith, slice_get_within whole h.done (to, p.now) item));
            steps = h.done + 1;
            some = omega arith;
            ahead = ray.ahead h.done (to, p.now) item;
            in_range = there.0;
            yes = (p, there.1, r);
            before = none_before h.done h.none (ray.none (omega (arith, slice_get_within whole h.done (to, p.now) item)));
          }

    pub IsPassing-end : (rest : List ((ℕ × ℕ) × T)) → rest ≡ [] → IsPassing whole returns f rest → InRange t at.0 at.1 → (count : ℕ) → NoneWithin returns f t way at count
    IsPassing-end rest none h inside count k to some lt ahead in_range =
        let one : k ≡ k - 1 + 1 = omega arith in
        let ahead_one = subst (λ n. IsAhead way n at to) one ahead in
        let in_ray = ray.all (k - 1) to inside ahead_one in_range in
        none_before h.done h.none inside k to some (omega (arith, in_ray, all_passed whole h.done (h.left ∙ none))) ahead in_range

-- a count of the cells alike has come to a position
pub record IsCounting {T : Type 0} (eq : T → T → Bool) (t : List (List T)) (way : Direction) (at : ℕ × ℕ) (count : ℕ) (to : ℕ × ℕ) : Type 0 where
  pub ahead : IsAhead way count at to
  pub each : (k : ℕ) → 0 < k → k ≤ count → (p : ℕ × ℕ) × IsAhead way k at p × IsAlike eq t at p

module _ {T : Type 0} (eq : T → T → Bool) (t : List (List T)) (way : Direction) (at : ℕ × ℕ) where
  -- the next position, where it is within the table
  module _ (count i j : ℕ) (h : IsCounting eq t way at count (i, j)) (m n : ℕ) (r : Reaches (m, n) (box_of way) at (count + 1)) where
    pub next_row : (1 ≤ i + (box_of way).0) × (i + (box_of way).0 - 1 < m)
    next_row = (omega (arith, h.ahead.0, r.above), omega (arith, h.ahead.0, r.above, r.below))

    pub next_col : (1 ≤ j + (box_of way).1) × (j + (box_of way).1 - 1 < n)
    next_col = (omega (arith, h.ahead.1, r.before), omega (arith, h.ahead.1, r.before, r.after))

    next_ahead : IsAhead way (count + 1) at (i + (box_of way).0 - 1, j + (box_of way).1 - 1)
    next_ahead = (omega (arith, h.ahead.0, r.above), omega (arith, h.ahead.1, r.before))

    module _ (here there : T) (at_here : cell t at.0 at.1 ≡ Some here) (at_there : cell t (i + (box_of way).0 - 1) (j + (box_of way).1 - 1) ≡ Some there) where
      pub IsCounting-next : IsTrue (eq there here) → IsCounting eq t way at (count + 1) (i + (box_of way).0 - 1, j + (box_of way).1 - 1)
      IsCounting-next equal = record {
        ahead = next_ahead;
        each = λ k some le.
            ⊎_elim (λ (old : k < count + 1). h.each k some (omega arith))
            (λ (new : count + 1 ≤ k).
            let same : count + 1 ≡ k = omega arith in (
              (i + (box_of way).0 - 1, j + (box_of way).1 - 1),
              subst (λ l. IsAhead way l at (i + (box_of way).0 - 1, j + (box_of way).1 - 1)) same next_ahead,
              record { here = here; there = there; at_here = at_here; at_there = at_there; equal = equal },
            ))
            (cases_lt k (count + 1));
      }

  -- at the edge, or at the limit
  pub IsCounting-end : (h' : IsTable t) (m n : ℕ) → m ≡ row_count t → n ≡ col_count t → IsWithin (m, n) at → (steps most count left : ℕ) (to : ℕ × ℕ) → left ≡ min steps most → count ≡ left → (IsWithin (m, n) at → (k : ℕ) → steps < k → Reaches (m, n) (box_of way) at k → ⊥) → IsCounting eq t way at count to → AreAlikeUpTo eq t at most way left
  IsCounting-end h' m n rows cols inside steps most count left to is all beyond h = record {
    each = λ k some le. h.each k some (omega arith);
    few = omega arith;
    ends = λ more p ahead alike.
        let in_range = cell_in_range t h' p.0 p.1 alike.there alike.at_there in
        beyond inside (left + 1) (omega arith) (record {
          above = omega (arith, ahead.0);
          below = omega (arith, ahead.0, in_range.0, rows);
          before = omega (arith, ahead.1);
          after = omega (arith, ahead.1, in_range.1, cols);
        });
  }
