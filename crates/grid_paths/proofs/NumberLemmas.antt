-- One region numbered.
use Rattle.std.proofs.Common.{◌≡◌, ℕ, suc, ◌+◌, ◌<◌, ◌≤◌, ◌⊎◌, Bool, Option, List, [], Contains, OnOk, length, sym, subst, arith, inl, inr, ⊎_elim}
use Rattle.grid_paths.proofs.Common.{cases_lt, slice_get_within, IsOpen, IsStep, Walk, IsMarked, IsAt, Spread, WentAround, IsNumbered, AreSteps, Outcome, VisitsEach, Numbers, on_ok_weaker}
use Rattle.grid_near.specs.declared.steps.Connectivity.{Connectivity}
use Rattle.grid_paths.proofs.SearchLemmas.{one_place}
use Rattle.grid_paths.specs.declared.bfs.Bfs.{Bfs}
use Rattle.grid_paths.specs.declared.numbered.Region.{Region}
use Rattle.grid_paths.proofs.AlikeLemmas.{alike_fits}
use Rattle.grid_paths.proofs.StepLemmas.{Grew, Spreads-steps, Spreads-none, Spreads-next}
use Rattle.grid_paths.proofs.VisitLemmas.{visited_each}

-- the positions that a step leads to are visited, one after another
pub Numbers-around : {T A : Type 0} (eq : T → T → Bool) (region : Region T A) (at : ℕ × ℕ) (near : List (ℕ × ℕ)) → AreSteps region.connectivity at near → (r : Outcome) (w u : Bfs A) → VisitsEach (λ at r w u. OnOk r (Numbers eq (λ b. at ≡ b) region w u)) near r w u → OnOk r (Numbers eq (IsStep region.connectivity at) region w u)
Numbers-around eq region at near steps r w u each =
    let t = region.grid.now in
    on_ok_weaker r (λ h. Spreads-steps region.connectivity at near steps (λ b o. inl (alike_fits eq region.first.now t.rows t.table t.fits.rows t.fits.cols b o)) h)
    (visited_each (λ at r w u. OnOk r (Numbers eq (λ b. at ≡ b) region w u)) (λ near w u. Numbers eq (λ b. Contains near b) region w u) Spreads-none (λ at later w v u one rest. Spreads-next later one rest) near r w u each)

-- a position that got the number while the region was numbered
pub record IsNew (connectivity : Connectivity) (mask : List (List Bool)) (p : ℕ × ℕ) (k : ℕ) (q : List (ℕ × ℕ)) (a : ℕ × ℕ) (m : ℕ) : Type 0 where
  pub is : m ≡ k
  pub walk : IsOpen mask p → (n : ℕ) × Walk connectivity mask p a n
  pub queued : (j : ℕ) × IsAt q j a

-- the region of p is numbered from the positions of the queue before `next`
pub record IsNumbering (connectivity : Connectivity) (mask : List (List Bool)) (p : ℕ × ℕ) (k : ℕ) (u0 u : List (List (Option ℕ))) (q : List (ℕ × ℕ)) (next : ℕ) : Type 0 where
  pub kept : (a : ℕ × ℕ) (m : ℕ) → IsMarked u0 a m → IsMarked u a m
  pub fresh : (a : ℕ × ℕ) (m : ℕ) → IsMarked u a m → IsMarked u0 a m ⊎ IsNew connectivity mask p k q a m
  pub queued : (j : ℕ) (a : ℕ × ℕ) → IsAt q j a → IsMarked u a k
  pub here : IsMarked u p k
  pub done : (j : ℕ) (a b : ℕ × ℕ) → j < next → IsAt q j a → IsStep connectivity a b → IsOpen mask b → (m : ℕ) × IsMarked u b m
  pub some : 0 < length q

pub IsNumbering-start : (connectivity : Connectivity) (mask : List (List Bool)) (p : ℕ × ℕ) (k : ℕ) (u u' : List (List (Option ℕ))) (q' : List (ℕ × ℕ)) → Grew u [] u' q' p k → IsNumbering connectivity mask p k u u' q' 0
IsNumbering-start connectivity mask p k u u' q' g =
    record {
      kept = g.kept;
      fresh = λ a m h.
          ⊎_elim (λ e.
          inr (record {
            is = e.1;
            walk = λ o. (0, (sym e.0, subst (λ x. IsOpen mask x) (sym e.0) o));
            queued = (0, subst (λ x. IsAt q' 0 x) (sym e.0) g.here_at);
          }))
          (λ h0. inl h0)
          (g.fresh a m h);
      queued = λ j a h. ⊎_elim (λ e. subst (λ x. IsMarked u' x k) (sym e.1) g.here) (λ h0. absurd (cc)) (g.fresh_at j a h);
      here = g.here;
      done = λ j a b lt. absurd (omega (arith, lt));
      some = slice_get_within q' 0 p g.here_at;
    }

module _ (connectivity : Connectivity) (mask : List (List Bool)) (p : ℕ × ℕ) (k : ℕ) (u0 u : List (List (Option ℕ))) (q : List (ℕ × ℕ)) (next : ℕ) (s : IsNumbering connectivity mask p k u0 u q next)
    (below : (a : ℕ × ℕ) (m : ℕ) → IsMarked u0 a m → m < k) where
  -- a position with this number is new
  pub is_new : (a : ℕ × ℕ) → IsMarked u a k → IsNew connectivity mask p k q a k
  is_new a h = ⊎_elim (λ h0. let lt = below a k h0 in absurd (omega arith)) (λ n. n) (s.fresh a k h)

  module _ (at : ℕ × ℕ) (u' : List (List (Option ℕ))) (q' : List (ℕ × ℕ)) (place : IsAt q next at) (w : WentAround (IsStep connectivity at) mask k u q u' q') where
    t : Spread (IsStep connectivity at) mask k u q u' q'
    t = w.spread

    fresh' : (a : ℕ × ℕ) (m : ℕ) → IsMarked u' a m → IsMarked u0 a m ⊎ IsNew connectivity mask p k q' a m
    fresh' a m h =
        ⊎_elim (λ h1.
        ⊎_elim (λ h0. inl h0)
        (λ n. let v = n.queued in inr (record { is = n.is; walk = n.walk; queued = (v.0, t.kept_at v.0 a v.1) }))
        (s.fresh a m h1))
        (λ f.
        let v = f.queued in
        inr (record {
          is = f.is;
          walk = λ o. let y = (is_new at (s.queued next at place)).walk o in (suc y.0, (at, y.1, f.is_near, f.is_open));
          queued = (v.0, v.2);
        }))
        (t.fresh a m h)

    done' : (j : ℕ) (a b : ℕ × ℕ) → j < next + 1 → IsAt q' j a → IsStep connectivity a b → IsOpen mask b → (m : ℕ) × IsMarked u' b m
    done' j a b lt h beside is_open =
        let in_q : next < length q = slice_get_within q next at place in
        let h0 : IsAt q j a = t.old_at j a (omega arith) h in
        ⊎_elim (λ less. let v = s.done j a b less h0 beside is_open in (v.0, t.kept b v.0 v.1))
        (λ ge.
        let j_is : j ≡ next = omega arith in
        let a_is : a ≡ at = one_place q next a at (subst (λ x. IsAt q x a) j_is h0) place in
        w.around b (subst (λ x. IsStep connectivity x b) a_is beside) is_open)
        (cases_lt j next)

    pub IsNumbering-round : IsNumbering connectivity mask p k u0 u' q' (next + 1)
    IsNumbering-round =
        let some = s.some in
        let longer = t.longer in
        record {
          kept = λ a m h. t.kept a m (s.kept a m h);
          fresh = fresh';
          queued = λ j a h.
              ⊎_elim (λ lt. t.kept a k (s.queued j a (t.old_at j a lt h))) (λ ge. t.fresh_at j a ge h) (cases_lt j (length q));
          here = t.kept p k s.here;
          done = done';
          some = omega arith;
        }

  pub IsNumbered-end : length q ≤ next → IsNumbered connectivity mask p k u0 u
  IsNumbered-end all =
      record {
        kept = s.kept;
        is = λ a m h. ⊎_elim (λ h0. inl h0) (λ n. inr n.is) (s.fresh a m h);
        walk = λ a h. (is_new a h).walk;
        here = s.here;
        spread = λ a b h.
            let n = is_new a h in
            let v = n.queued in
            let lt : v.0 < length q = slice_get_within q v.0 a v.1 in
            s.done v.0 a b (omega arith) v.1;
      }
