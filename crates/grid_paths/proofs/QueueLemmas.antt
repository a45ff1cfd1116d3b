-- The queue of a breadth-first search, where the first positions were dropped; and that numbers
-- stay below the cells.
use Rattle.std.proofs.Common.{◌≡◌, ℕ, zero, suc, ◌+◌, ◌*◌, ◌<◌, ◌≤◌, ◌⊎◌, Bool, Option, None, Some, List, [], ◌∷◌, ◌++◌, length, get_or, Contains, refl, sym, ◌∙◌, ap, subst, arith, inl, inr, ⊎_elim, sum_by, length-append, append_assoc}
use Rattle.grid_paths.proofs.Common.{row_count, col_count, IsTable, concat_rows, sum_by-cons, slice_get_read, slice_get_within, length-storage, IsOpen, IsStep, HasLeastFrom, IsMarked, IsAt, IsReached, Spread, WentAround, free, unreached}
use Rattle.grid_base.specs.declared.order.Order.TheVariants.{RowMajor}
use Rattle.grid_near.specs.declared.steps.Connectivity.{Connectivity}
use Rattle.grid_paths.proofs.SearchLemmas.{IsSearch, IsSearch-round, HasLeastFrom-end}

-- places of one list after another
pub at_right : (g q : List (ℕ × ℕ)) (i : ℕ) (a : ℕ × ℕ) → IsAt q i a → IsAt (g ++ q) (length g + i) a
at_right [] q i a h = let e : i ≡ 0 + i = omega arith in subst (λ j. IsAt q j a) e h
at_right (x ∷ g) q i a h =
    let e : suc (length g + i) ≡ length (x ∷ g) + i = omega arith in
    subst (λ j. IsAt (x ∷ g ++ q) j a) e (at_right g q i a h)

at_left : (g q : List (ℕ × ℕ)) (j : ℕ) (a : ℕ × ℕ) → IsAt g j a → IsAt (g ++ q) j a
at_left [] q j a h = absurd (cc)
at_left (x ∷ g) q zero a h = h
at_left (x ∷ g) q (suc j) a h = at_left g q j a h

at_either : (g q : List (ℕ × ℕ)) (j : ℕ) (a : ℕ × ℕ) → IsAt (g ++ q) j a → IsAt g j a ⊎ ((i : ℕ) × (j ≡ length g + i) × IsAt q i a)
at_either [] q j a h = let e : j ≡ 0 + j = omega arith in inr (j, e, h)
at_either (x ∷ g) q zero a h = inl h
at_either (x ∷ g) q (suc j) a h =
    ⊎_elim (λ l. inl l)
    (λ w. let j_is : j ≡ length g + w.0 = w.1 in let e : suc j ≡ length (x ∷ g) + w.0 = omega arith in inr (w.0, e, w.2))
    (at_either g q j a h)

-- what is reached after a queue is reached after a longer one
module _ (near : ℕ × ℕ → Type 0) (mask : List (List Bool)) (k : ℕ) (u : List (List (Option ℕ))) (q : List (ℕ × ℕ)) (u' : List (List (Option ℕ))) (q' g : List (ℕ × ℕ)) (w : WentAround near mask k u q u' q') where
  s : Spread near mask k u q u' q'
  s = w.spread

  kept_at' : (j : ℕ) (a : ℕ × ℕ) → IsAt (g ++ q) j a → IsAt (g ++ q') j a
  kept_at' j a h =
      ⊎_elim (λ l. at_left g q' j a l)
      (λ v. subst (λ x. IsAt (g ++ q') x a) (sym v.1) (at_right g q' v.0 a (s.kept_at v.0 a v.2)))
      (at_either g q j a h)

  old_at' : (j : ℕ) (a : ℕ × ℕ) → j < length (g ++ q) → IsAt (g ++ q') j a → IsAt (g ++ q) j a
  old_at' j a lt h =
      let long : length (g ++ q) ≡ length g + length q = length-append g q in
      ⊎_elim (λ l. at_left g q j a l)
      (λ v.
      let j_is : j ≡ length g + v.0 = v.1 in
      let low : v.0 < length q = omega arith in
      subst (λ x. IsAt (g ++ q) x a) (sym v.1) (at_right g q v.0 a (s.old_at v.0 a low v.2)))
      (at_either g q' j a h)

  fresh_at' : (j : ℕ) (a : ℕ × ℕ) → length (g ++ q) ≤ j → IsAt (g ++ q') j a → IsMarked u' a k
  fresh_at' j a le h =
      let long : length (g ++ q) ≡ length g + length q = length-append g q in
      ⊎_elim (λ l. let lt = slice_get_within g j a l in absurd (omega arith))
      (λ v. let j_is : j ≡ length g + v.0 = v.1 in s.fresh_at v.0 a (omega arith) v.2)
      (at_either g q' j a h)

  fresh' : (a : ℕ × ℕ) (m : ℕ) → IsMarked u' a m → IsMarked u a m ⊎ IsReached near mask k (g ++ q) (g ++ q') a m
  fresh' a m h =
      let long : length (g ++ q) ≡ length g + length q = length-append g q in
      ⊎_elim (λ h0. inl h0)
      (λ f.
      let v = f.queued in
      let low : length q ≤ v.0 = v.1 in
      inr (record { is = f.is; is_open = f.is_open; is_near = f.is_near; queued = (length g + v.0, omega arith, at_right g q' v.0 a v.2) }))
      (s.fresh a m h)

  pub WentAround-after : WentAround near mask k u (g ++ q) u' (g ++ q')
  WentAround-after =
      let long : length (g ++ q) ≡ length g + length q = length-append g q in
      let long' : length (g ++ q') ≡ length g + length q' = length-append g q' in
      let up = s.longer in
      let total = s.total in
      record {
        spread = record {
          kept = s.kept;
          fresh = fresh';
          kept_at = kept_at';
          old_at = old_at';
          fresh_at = fresh_at';
          longer = omega arith;
          total = omega arith;
        };
        around = w.around;
      }

-- the search, where the first positions of the queue were dropped
pub record IsTrimmed (connectivity : Connectivity) (mask : List (List Bool)) (starts : List (ℕ × ℕ)) (steps : List (List (Option ℕ))) (queue : List (ℕ × ℕ)) (next cells : ℕ) : Type 0 where
  pub front : List (ℕ × ℕ)
  pub search : IsSearch connectivity mask starts steps (front ++ queue) (length front + next)
  pub bound : unreached steps + length (front ++ queue) ≤ cells

module _ {connectivity : Connectivity} {mask : List (List Bool)} {starts : List (ℕ × ℕ)} {cells : ℕ} where
  pub IsTrimmed-start : (steps : List (List (Option ℕ))) (queue : List (ℕ × ℕ)) → IsSearch connectivity mask starts steps queue 0 → unreached steps + length queue ≤ cells → IsTrimmed connectivity mask starts steps queue 0 cells
  IsTrimmed-start steps queue s le = record { front = []; search = s; bound = le }

  module _ {steps : List (List (Option ℕ))} {queue : List (ℕ × ℕ)} {next : ℕ} (t : IsTrimmed connectivity mask starts steps queue next cells) where
    -- the next position, which is a, and its number
    pub next_at : (a : ℕ × ℕ) → next < length queue → a ≡ get_or queue next a → IsAt queue next a × ((n : ℕ) × IsMarked steps a n × (n < cells))
    next_at a lt0 is =
        let place : IsAt queue next a = slice_get_read queue (length queue) next a refl lt0 is in
        let at = at_right t.front queue next a place in
        let v = t.search.marked (length t.front + next) a at in
        let lt : length t.front + next < length (t.front ++ queue) = slice_get_within (t.front ++ queue) (length t.front + next) a at in
        let low : v.0 ≤ length t.front + next = v.2 in
        let le = t.bound in
        (place, (v.0, v.1, omega arith))

    pub IsTrimmed-round : (steps' : List (List (Option ℕ))) (queue' : List (ℕ × ℕ)) (a : ℕ × ℕ) (n : ℕ) → IsAt queue next a → IsMarked steps a n → WentAround (IsStep connectivity a) mask (n + 1) steps queue steps' queue' → IsTrimmed connectivity mask starts steps' queue' (next + 1) cells
    IsTrimmed-round steps' queue' a n place mark w =
        let g = t.front in
        let behind = WentAround-after (IsStep connectivity a) mask (n + 1) steps queue steps' queue' g w in
        let s = IsSearch-round connectivity mask starts steps (g ++ queue) steps' (g ++ queue') a n (length g + next) t.search (at_right g queue next a place) mark behind in
        let place_is : length g + next + 1 ≡ length g + (next + 1) = omega arith in
        let total = behind.spread.total in
        let le = t.bound in
        record { front = g; search = subst (λ x. IsSearch connectivity mask starts steps' (g ++ queue') x) place_is s; bound = omega arith }

    pub IsTrimmed-trim : (queue' : List (ℕ × ℕ)) (next' : ℕ) → (front : List (ℕ × ℕ)) × (queue ≡ front ++ queue') × (next ≡ length front + next') → IsTrimmed connectivity mask starts steps queue' next' cells
    IsTrimmed-trim queue' next' w =
        let g = t.front in
        let f = w.0 in
        let whole : g ++ queue ≡ (g ++ f) ++ queue' = ap (λ x. g ++ x) w.1 ∙ sym (append_assoc g f queue') in
        let long : length (g ++ f) ≡ length g + length f = length-append g f in
        let next_is : next ≡ length f + next' = w.2 in
        let place_is : length g + next ≡ length (g ++ f) + next' = omega arith in
        record {
          front = g ++ f;
          search = subst (λ x. IsSearch connectivity mask starts steps ((g ++ f) ++ queue') x) place_is (subst (λ x. IsSearch connectivity mask starts steps x (length g + next)) whole t.search);
          bound = subst (λ x. unreached steps + length x ≤ cells) whole t.bound;
        }

    pub HasLeastFrom-trimmed : ((from : ℕ × ℕ) → Contains starts from → IsOpen mask from → IsMarked steps from 0) → length queue ≤ next → HasLeastFrom connectivity mask starts steps
    HasLeastFrom-trimmed start all =
        let long : length (t.front ++ queue) ≡ length t.front + length queue = length-append t.front queue in
        HasLeastFrom-end connectivity mask starts steps (t.front ++ queue) (length t.front + next) t.search start (omega arith)

-- there are no more unreached cells than cells
free_one : (x : Option ℕ) → free x ≤ 1
free_one None = omega arith
free_one (Some n) = omega arith

free_cells : (xs : List (Option ℕ)) → sum_by free xs ≤ length xs
free_cells [] = omega arith
free_cells (x ∷ xs) = let one = free_one x in
    let rest = free_cells xs in
    let sum = sum_by-cons free x xs in
    omega arith

unreached_joined : (t : List (List (Option ℕ))) → unreached t ≤ length (concat_rows t)
unreached_joined [] = omega arith
unreached_joined (x ∷ t) =
    let long = length-append x (concat_rows t) in
    let first = free_cells x in
    let rest = unreached_joined t in
    let sum = sum_by-cons (sum_by free) x t in
    omega arith

pub unreached_cells : (t : List (List (Option ℕ))) → IsTable t → unreached t ≤ row_count t * col_count t
unreached_cells t h =
    let joined = unreached_joined t in let size = length-storage RowMajor t h in omega arith
