-- The breadth-first search: what holds after each step, and what that says at the end.
use Rattle.std.proofs.Common.{◌≡◌, ℕ, zero, suc, ◌+◌, ◌<◌, ◌≤◌, Bool, Option, Some, List, [], ◌∷◌, length, Contains, refl, sym, ◌∙◌, subst, arith, ⊎_elim}
use Rattle.grid_paths.proofs.Common.{cases_lt, slice_get_within, IsOpen, IsStep, Walk, WalkFrom, IsLeastSteps, HasLeastSteps, IsLeastFrom, HasLeastFrom, IsMarked, IsAt, Spread, WentAround, HasLeastUpTo, IsSettled}
use Rattle.grid_near.specs.declared.steps.Connectivity.{Connectivity}

-- the search has found these steps, and gone on from the positions of the queue before `next`
pub record IsSearch (connectivity : Connectivity) (mask : List (List Bool)) (starts : List (ℕ × ℕ))
    (steps : List (List (Option ℕ)))
    (queue : List (ℕ × ℕ)) (next : ℕ) : Type 0 where
  pub marked : (j : ℕ) (a : ℕ × ℕ) → IsAt queue j a → (n : ℕ) × IsMarked steps a n × (n ≤ j)
  pub listed : (a : ℕ × ℕ) (n : ℕ) → IsMarked steps a n → (j : ℕ) × IsAt queue j a
  pub sound : (a : ℕ × ℕ) (n : ℕ) → IsMarked steps a n → WalkFrom connectivity mask starts a n
  pub ordered : (i j : ℕ) (a b : ℕ × ℕ) (m n : ℕ) → i ≤ j → IsAt queue i a → IsAt queue j b
      → IsMarked steps a m → IsMarked steps b n → m ≤ n
  pub close : (a : ℕ × ℕ) (m j : ℕ) (b : ℕ × ℕ) (n : ℕ) → next ≤ j → IsMarked steps a m
      → IsAt queue j b → IsMarked steps b n → m ≤ n + 1
  pub done : (j : ℕ) (a : ℕ × ℕ) (n : ℕ) (b : ℕ × ℕ) → j < next → IsAt queue j a
      → IsMarked steps a n → IsStep connectivity a b → IsOpen mask b
      → (m : ℕ) × IsMarked steps b m × (m ≤ n + 1)

pub one_mark : (steps : List (List (Option ℕ))) (a : ℕ × ℕ) (m n : ℕ) → IsMarked steps a m → IsMarked steps a n → m ≡ n
one_mark steps a m n h k = let e : ◌≡◌ {A = Option (Option ℕ)} (Some (Some m)) (Some (Some n)) = sym h ∙ k in cc

pub one_place : (queue : List (ℕ × ℕ)) (j : ℕ) (a b : ℕ × ℕ) → IsAt queue j a → IsAt queue j b → a ≡ b
one_place queue j a b h k = let e : ◌≡◌ {A = Option (ℕ × ℕ)} (Some a) (Some b) = sym h ∙ k in cc

-- the search once some positions near the ones before are reached by k steps
module _ (connectivity : Connectivity) (mask : List (List Bool)) (starts : List (ℕ × ℕ)) (near : ℕ × ℕ → Type 0) (steps : List (List (Option ℕ))) (queue : List (ℕ × ℕ)) (steps' : List (List (Option ℕ))) (queue' : List (ℕ × ℕ)) (k next : ℕ)
    (s : IsSearch connectivity mask starts steps queue next) (g : Spread near mask k steps queue steps' queue') (low : k ≤ length queue)
    (way : (b : ℕ × ℕ) → near b → IsOpen mask b → WalkFrom connectivity mask starts b k)
    (above : (a : ℕ × ℕ) (m : ℕ) → IsMarked steps a m → m ≤ k)
    (close_by : (j : ℕ) (a : ℕ × ℕ) (n : ℕ) → next ≤ j → IsAt queue j a → IsMarked steps a n → k ≤ n + 1)
    (before : next ≤ length queue) where
  -- the mark of a position that was in the queue is as it was
  old : (j : ℕ) (a : ℕ × ℕ) (m : ℕ) → IsAt queue j a → IsMarked steps' a m → IsMarked steps a m
  old j a m h w =
      let v = s.marked j a h in
      let e : v.0 ≡ m = one_mark steps' a v.0 m (g.kept a v.0 v.1) w in
      subst (λ x. IsMarked steps a x) e v.1

  -- no mark is above the new one
  most : (a : ℕ × ℕ) (m : ℕ) → IsMarked steps' a m → m ≤ k
  most a m h = ⊎_elim (λ h0. above a m h0) (λ f. let e : m ≡ k = f.is in omega arith) (g.fresh a m h)

  -- the mark of a new position
  its : (j : ℕ) (a : ℕ × ℕ) (m : ℕ) → length queue ≤ j → IsAt queue' j a → IsMarked steps' a m → m ≡ k
  its j a m le h w = one_mark steps' a m k w (g.fresh_at j a le h)

  marked' : (j : ℕ) (a : ℕ × ℕ) → IsAt queue' j a → (n : ℕ) × IsMarked steps' a n × (n ≤ j)
  marked' j a h =
      ⊎_elim (λ lt. let w = s.marked j a (g.old_at j a lt h) in (w.0, g.kept a w.0 w.1, w.2))
      (λ ge. let le : k ≤ j = omega arith in (k, g.fresh_at j a ge h, le))
      (cases_lt j (length queue))

  listed' : (a : ℕ × ℕ) (n : ℕ) → IsMarked steps' a n → (j : ℕ) × IsAt queue' j a
  listed' a n h =
      ⊎_elim (λ h0. let w = s.listed a n h0 in (w.0, g.kept_at w.0 a w.1)) (λ f. let v = f.queued in (v.0, v.2)) (g.fresh a n h)

  sound' : (a : ℕ × ℕ) (n : ℕ) → IsMarked steps' a n → WalkFrom connectivity mask starts a n
  sound' a n h =
      ⊎_elim (λ h0. s.sound a n h0)
      (λ f. subst (λ x. WalkFrom connectivity mask starts a x) (sym f.is) (way a f.is_near f.is_open))
      (g.fresh a n h)

  ordered' : (i j : ℕ) (a c : ℕ × ℕ) (m n : ℕ) → i ≤ j → IsAt queue' i a → IsAt queue' j c → IsMarked steps' a m → IsMarked steps' c n → m ≤ n
  ordered' i j a c m n le hi hj hm hn =
      ⊎_elim (λ lt.
      let hi0 = g.old_at i a (omega arith) hi in
      let hj0 = g.old_at j c lt hj in
      s.ordered i j a c m n le hi0 hj0 (old i a m hi0 hm) (old j c n hj0 hn))
      (λ ge. let n_is : n ≡ k = its j c n ge hj hn in let top = most a m hm in omega arith)
      (cases_lt j (length queue))

  close' : (a : ℕ × ℕ) (m j : ℕ) (c : ℕ × ℕ) (n : ℕ) → next ≤ j → IsMarked steps' a m → IsAt queue' j c → IsMarked steps' c n → m ≤ n + 1
  close' a m j c n le hm hj hn =
      ⊎_elim (λ lt.
      let hj0 = g.old_at j c lt hj in
      let hn0 = old j c n hj0 hn in
      ⊎_elim (λ hm0. s.close a m j c n le hm0 hj0 hn0)
      (λ f. let m_is : m ≡ k = f.is in let up = close_by j c n le hj0 hn0 in omega arith)
      (g.fresh a m hm))
      (λ ge. let n_is : n ≡ k = its j c n ge hj hn in let top = most a m hm in omega arith)
      (cases_lt j (length queue))

  done' : (j : ℕ) (a : ℕ × ℕ) (n : ℕ) (c : ℕ × ℕ) → j < next → IsAt queue' j a → IsMarked steps' a n → IsStep connectivity a c → IsOpen mask c → (m : ℕ) × IsMarked steps' c m × (m ≤ n + 1)
  done' j a n c lt hj hn step is_open =
      let hj0 = g.old_at j a (omega arith) hj in
      let w = s.done j a n c lt hj0 (old j a n hj0 hn) step is_open in
      (w.0, g.kept c w.0 w.1, w.2)

  pub IsSearch-spread : IsSearch connectivity mask starts steps' queue' next
  IsSearch-spread =
      record { marked = marked'; listed = listed'; sound = sound'; ordered = ordered'; close = close'; done = done' }

-- once all open positions that a step from one leads to are reached, the search has gone on from it
went_on : (connectivity : Connectivity) (mask : List (List Bool)) (starts : List (ℕ × ℕ)) (steps : List (List (Option ℕ))) (queue : List (ℕ × ℕ)) (a : ℕ × ℕ) (next : ℕ) → IsSearch connectivity mask starts steps queue next → IsAt queue next a → ((b : ℕ × ℕ) → IsStep connectivity a b → IsOpen mask b → (m : ℕ) × IsMarked steps b m) → IsSearch connectivity mask starts steps queue (next + 1)
went_on connectivity mask starts steps queue a next s place around =
    record {
      marked = s.marked;
      listed = s.listed;
      sound = s.sound;
      ordered = s.ordered;
      close = λ c m j b n le. s.close c m j b n (omega arith);
      done = done;
    }
  where
    done : (j : ℕ) (c : ℕ × ℕ) (n : ℕ) (b : ℕ × ℕ) → j < next + 1 → IsAt queue j c → IsMarked steps c n → IsStep connectivity c b → IsOpen mask b → (m : ℕ) × IsMarked steps b m × (m ≤ n + 1)
    done j c n b lt at mark step is_open =
        ⊎_elim (λ less. s.done j c n b less at mark step is_open)
        (λ ge.
        let j_is : j ≡ next = omega arith in
        let here : IsAt queue next c = subst (λ x. IsAt queue x c) j_is at in
        let c_is : c ≡ a = one_place queue next c a here place in
        let v = around b (subst (λ x. IsStep connectivity x b) c_is step) is_open in
        (v.0, v.1, s.close b v.0 next c n (omega arith) v.1 here mark))
        (cases_lt j next)

pub IsSearch-round : (connectivity : Connectivity) (mask : List (List Bool)) (starts : List (ℕ × ℕ)) (steps : List (List (Option ℕ))) (queue : List (ℕ × ℕ)) (steps' : List (List (Option ℕ))) (queue' : List (ℕ × ℕ)) (a : ℕ × ℕ) (n next : ℕ) → IsSearch connectivity mask starts steps queue next → IsAt queue next a → IsMarked steps a n → WentAround (IsStep connectivity a) mask (n + 1) steps queue steps' queue' → IsSearch connectivity mask starts steps' queue' (next + 1)
IsSearch-round connectivity mask starts steps queue steps' queue' a n next s place mark w =
    let lt : next < length queue = slice_get_within queue next a place in
    let v = s.marked next a place in
    let same : v.0 ≡ n = one_mark steps a v.0 n v.1 mark in
    let le : v.0 ≤ next = v.2 in
    let u = s.sound a n mark in
    let k_is : suc n ≡ n + 1 = omega arith in
    let way : (b : ℕ × ℕ) → IsStep connectivity a b → IsOpen mask b → WalkFrom connectivity mask starts b (n + 1) = λ b step is_open.
    let last : WalkFrom connectivity mask starts b (suc n) = (u.0, u.1, (a, u.2, step, is_open)) in
    subst (λ x. WalkFrom connectivity mask starts b x) k_is last in
    let after = IsSearch-spread connectivity mask starts (IsStep connectivity a) steps queue steps' queue' (n + 1) next s w.spread (omega arith) way
    (λ c m x. s.close c m next a n (omega arith) x place mark)
    (λ j c m up x y. let low : n ≤ m = s.ordered next j a c n m up place x mark y in omega arith)
    (omega arith) in
    went_on connectivity mask starts steps' queue' a next after (w.spread.kept_at next a place) w.around

-- at the end of the queue every mark is the least number of steps, and no walk leads to another position
module _ (connectivity : Connectivity) (mask : List (List Bool)) (starts : List (ℕ × ℕ)) (steps : List (List (Option ℕ))) (queue : List (ℕ × ℕ)) (next : ℕ) (s : IsSearch connectivity mask starts steps queue next)
    (start : (from : ℕ × ℕ) → Contains starts from → IsOpen mask from → IsMarked steps from 0) (all : length queue ≤ next) where
  complete : (from : ℕ × ℕ) → Contains starts from → (n : ℕ) (b : ℕ × ℕ) → Walk connectivity mask from b n → (m : ℕ) × IsMarked steps b m × (m ≤ n)
  complete from is zero b w =
      (0, subst (λ x. IsMarked steps x 0) w.0 (start from is (subst (λ x. IsOpen mask x) (sym w.0) w.1)), omega arith)
  complete from is (suc n) b w =
      let v = complete from is n w.0 w.1 in
      let at = s.listed w.0 v.0 v.1 in
      let lt = slice_get_within queue at.0 w.0 at.1 in
      let u = s.done at.0 w.0 v.0 b (omega arith) at.1 v.1 w.2 w.3 in
      let up : u.0 ≤ v.0 + 1 = u.2 in
      let low : v.0 ≤ n = v.2 in
      (u.0, u.1, omega arith)

  pub HasLeastFrom-end : HasLeastFrom connectivity mask starts steps
  HasLeastFrom-end = record { found = λ at n w. let v = complete w.0 w.1 n at w.2 in (v.0, v.1); least = least }
    where
      least : (at : ℕ × ℕ) (k : ℕ) → IsMarked steps at k → IsLeastFrom connectivity mask starts at k
      least at k h =
          record {
            walk = s.sound at k h;
            least = λ n w.
                let v = complete w.0 w.1 n at w.2 in
                let e : k ≡ v.0 = one_mark steps at k v.0 h v.1 in
                let le : v.0 ≤ n = v.2 in
                omega arith;
          }

-- the one position of a list of one
one_of : (a b : ℕ × ℕ) → Contains (a ∷ []) b → a ≡ b
one_of a b (zero, lt, e) = e
one_of a b (suc k, lt, e) = absurd (omega arith)

-- the least numbers from one position
pub HasLeastSteps-one : (connectivity : Connectivity) (mask : List (List Bool)) (from : ℕ × ℕ) (u : List (List (Option ℕ))) → HasLeastFrom connectivity mask (from ∷ []) u → HasLeastSteps connectivity mask from u
HasLeastSteps-one connectivity mask from u h =
    record {
      found = λ at n w. h.found at n (from, (0, omega arith, refl), w);
      least = λ at k e.
          let v = h.least at k e in
          let is : from ≡ v.walk.0 = one_of from v.walk.0 v.walk.1 in
          record {
            walk = subst (λ x. Walk connectivity mask x at k) (sym is) v.walk.2;
            least = λ n w. v.least n (from, (0, omega arith, refl), w);
          };
    }

-- once a position has the number d, each one fewer steps away has its least number
module _ (connectivity : Connectivity) (mask : List (List Bool)) (from : ℕ × ℕ) (steps : List (List (Option ℕ))) (queue : List (ℕ × ℕ)) (next : ℕ) (s : IsSearch connectivity mask (from ∷ []) steps queue next)
    (start : IsOpen mask from → IsMarked steps from 0) (goal : ℕ × ℕ) (d : ℕ) (mark : IsMarked steps goal d) where
  complete_below : (n : ℕ) (b : ℕ × ℕ) → n < d → Walk connectivity mask from b n → (m : ℕ) × IsMarked steps b m × (m ≤ n)
  complete_below zero b lt w =
      (0, subst (λ x. IsMarked steps x 0) w.0 (start (subst (λ x. IsOpen mask x) (sym w.0) w.1)), omega arith)
  complete_below (suc n) b lt w =
      let v = complete_below n w.0 (omega arith) w.1 in
      let low : v.0 ≤ n = v.2 in
      let at = s.listed w.0 v.0 v.1 in
      ⊎_elim (λ before.
      let u = s.done at.0 w.0 v.0 b before at.1 v.1 w.2 w.3 in
      let up : u.0 ≤ v.0 + 1 = u.2 in
      (u.0, u.1, omega arith))
      (λ ge. let up : d ≤ v.0 + 1 = s.close goal d at.0 w.0 v.0 ge mark at.1 v.1 in absurd (omega arith))
      (cases_lt at.0 next)

  pub HasLeastUpTo-search : HasLeastUpTo connectivity mask from steps d
  HasLeastUpTo-search = record { found = λ at n lt w. complete_below n at lt w; least = least }
    where
      least : (at : ℕ × ℕ) (k : ℕ) → k ≤ d → IsMarked steps at k → IsLeastSteps connectivity mask from at k
      least at k le h =
          let v = s.sound at k h in
          let is : from ≡ v.0 = one_of from v.0 v.1 in
          record {
            walk = subst (λ x. Walk connectivity mask x at k) (sym is) v.2;
            least = λ n w.
                ⊎_elim (λ lt.
                let y = complete_below n at (omega arith) w in
                let e : k ≡ y.0 = one_mark steps at k y.0 h y.1 in
                let low : y.0 ≤ n = y.2 in
                absurd (omega arith))
                (λ ge. ge)
                (cases_lt n k);
          }

-- settled where the goal has a number, and at the end
pub IsSettled-found : (connectivity : Connectivity) (mask : List (List Bool)) (from : ℕ × ℕ) (steps : List (List (Option ℕ))) (queue : List (ℕ × ℕ)) (next : ℕ) → IsSearch connectivity mask (from ∷ []) steps queue next → (IsOpen mask from → IsMarked steps from 0) → (goal : ℕ × ℕ) (d : ℕ) → IsMarked steps goal d → IsSettled connectivity mask from goal steps
IsSettled-found connectivity mask from steps queue next s start goal d mark =
    record {
      found = λ d' mark'. HasLeastUpTo-search connectivity mask from steps queue next s start goal d' mark';
      none = λ none. absurd (none d mark);
    }

pub IsSettled-end : (connectivity : Connectivity) (mask : List (List Bool)) (from : ℕ × ℕ) (steps : List (List (Option ℕ))) → HasLeastSteps connectivity mask from steps → (goal : ℕ × ℕ) → IsSettled connectivity mask from goal steps
IsSettled-end connectivity mask from steps h goal =
    record {
      found = λ d mark. record {
        found = λ at n lt w. let v = h.found at n w in (v.0, v.1, (h.least at v.0 v.1).least n w);
        least = λ at k le mark'. h.least at k mark';
      };
      none = λ none n w. let v = h.found goal n w in none v.0 v.1;
    }
