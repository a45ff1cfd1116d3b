-- Cells in a row: counted in the two directions from one of them, and seen from their other end.
use Rattle.std.proofs.Common.{◌≡◌, ℕ, ◌+◌, ◌-◌, ◌*◌, ◌<◌, ◌≤◌, Bool, List, sym, ap, subst, refl, arith, ⊎_elim}
use Rattle.std.proofs.lemmas.Bool.{cases_lt}
use Rattle.grid_base.specs.Table.{InRange}
use Rattle.grid_near.specs.declared.direction.Direction.{Direction}
use Rattle.grid_near.specs.declared.direction.Direction.TheVariants.{Up, UpRight, Right, DownRight, Down, DownLeft, Left, UpLeft}
use Rattle.grid_near.specs.Directions.{box_of, IsBeside}
use Rattle.grid_rays.specs.Rays.{IsAhead}
use Rattle.grid_rays.specs.Along.{AreAlikeUpTo, IsAlike, IsRun, HasRunAlong, HasRun}

-- two directions are opposite
pub record AreOpposite (way back : Direction) : Type 0 where
  pub rows : (box_of way).0 + (box_of back).0 ≡ 2
  pub cols : (box_of way).1 + (box_of back).1 ≡ 2

pub AreOpposite-beside : (way back : Direction) → ((a b : ℕ × ℕ) → IsBeside way a b → IsBeside back b a) → AreOpposite way back
AreOpposite-beside way back h =
    let there = h (1, 1) (box_of way) (omega arith, omega arith) in
    record { rows = omega (arith, there.0); cols = omega (arith, there.1) }

step_sum : (b d k : ℕ) → b + d ≡ 2 → k * b + k * d ≡ 2 * k
step_sum b d k both = let e : k * (b + d) ≡ k * 2 = ap (λ z. k * z) both in omega (arith, e)

-- one coordinate: m steps back from x, of k + m that lead there from s; and m steps on
module _ (b d s x p k m : ℕ) (both : b + d ≡ 2) where
  from_back : s + (k + m) ≡ x + (k + m) * d → p + m ≡ x + m * d → p + k ≡ s + k * b
  from_back e f = omega (arith, e, f, step_sum b d k both)

  to_back : x + (k + m) ≡ s + (k + m) * b → p + k ≡ s + k * b → p + m ≡ x + m * d
  to_back e f = omega (arith, e, f, step_sum b d m both)

  from_ahead : x + k ≡ s + k * b → p + m ≡ x + m * b → p + (k + m) ≡ s + (k + m) * b
  from_ahead e f = omega (arith, e, f)

  to_ahead : x + k ≡ s + k * b → p + (k + m) ≡ s + (k + m) * b → p + m ≡ x + m * b
  to_ahead e f = omega (arith, e, f)

module _ (way back : Direction) (opposite : AreOpposite way back) (s at p : ℕ × ℕ) (k m n : ℕ) (sum : k + m ≡ n) where
  IsAhead-from_back : IsAhead back n at s → IsAhead back m at p → IsAhead way k s p
  IsAhead-from_back e f =
      let all = subst (λ j. IsAhead back j at s) (sym sum) e in (
        from_back (box_of way).0 (box_of back).0 s.0 at.0 p.0 k m opposite.rows all.0 f.0,
        from_back (box_of way).1 (box_of back).1 s.1 at.1 p.1 k m opposite.cols all.1 f.1,
      )

  IsAhead-to_back : IsAhead way n s at → IsAhead way k s p → IsAhead back m at p
  IsAhead-to_back e f =
      let all = subst (λ j. IsAhead way j s at) (sym sum) e in (
        to_back (box_of way).0 (box_of back).0 s.0 at.0 p.0 k m opposite.rows all.0 f.0,
        to_back (box_of way).1 (box_of back).1 s.1 at.1 p.1 k m opposite.cols all.1 f.1,
      )

  IsAhead-from_ahead : IsAhead way k s at → IsAhead way m at p → IsAhead way n s p
  IsAhead-from_ahead e f =
      subst (λ j. IsAhead way j s p) sum (
        from_ahead (box_of way).0 (box_of back).0 s.0 at.0 p.0 k m opposite.rows e.0 f.0,
        from_ahead (box_of way).1 (box_of back).1 s.1 at.1 p.1 k m opposite.cols e.1 f.1,
      )

  IsAhead-to_ahead : IsAhead way k s at → IsAhead way n s p → IsAhead way m at p
  IsAhead-to_ahead e f =
      let all = subst (λ j. IsAhead way j s p) (sym sum) f in (
        to_ahead (box_of way).0 (box_of back).0 s.0 at.0 p.0 k m opposite.rows e.0 all.0,
        to_ahead (box_of way).1 (box_of back).1 s.1 at.1 p.1 k m opposite.cols e.1 all.1,
      )

module _ {T : Type 0} (eq : T → T → Bool) (t : List (List T)) (at : ℕ × ℕ) (way back : Direction) (opposite : AreOpposite way back) where
  -- a run has no more on either side than are alike there
  module _ (ahead behind : ℕ) (a : (to : ℕ × ℕ) → IsAhead way (ahead + 1) at to → IsAlike eq t at to → ⊥) (b : (to : ℕ × ℕ) → IsAhead back (behind + 1) at to → IsAlike eq t at to → ⊥) where
    not_behind : (start : ℕ × ℕ) (n i : ℕ) → IsRun eq t at way start n i → i ≤ behind
    not_behind start n i r =
        ⊎_elim (λ (less : behind < i).
        let k = i - (behind + 1) in
        let w = r.others k (omega (arith, r.within)) (λ e. omega arith) in
        absurd (b w.0 (IsAhead-to_back way back opposite start at w.0 k (behind + 1) i (omega arith) r.here w.1) w.2))
        (λ (le : i ≤ behind). le)
        (cases_lt behind i)

    not_ahead : (start : ℕ × ℕ) (n i : ℕ) → IsRun eq t at way start n i → n ≤ i + 1 + ahead
    not_ahead start n i r =
        ⊎_elim (λ (less : i + 1 + ahead < n).
        let k = i + (ahead + 1) in
        let w = r.others k (omega arith) (λ e. omega arith) in
        absurd (a w.0 (IsAhead-to_ahead way back opposite start at w.0 i (ahead + 1) k refl r.here w.1) w.2))
        (λ (le : n ≤ i + 1 + ahead). le)
        (cases_lt (i + 1 + ahead) n)

    run_fits : (start : ℕ × ℕ) (n i : ℕ) → IsRun eq t at way start n i → n ≤ ahead + behind + 1
    run_fits start n i r = omega (arith, not_behind start n i r, not_ahead start n i r)

  -- the same of those that are counted as far as they matter
  pub run_counted : (ahead behind n : ℕ) → AreAlikeUpTo eq t at (n - 1) way ahead → AreAlikeUpTo eq t at (n - 1 - ahead) back behind → ahead < n - 1 → (start : ℕ × ℕ) (i : ℕ) → IsRun eq t at way start n i → n - 1 ≤ ahead + behind
  run_counted ahead behind n a b short start i r =
      ⊎_elim (λ (few : behind < n - 1 - ahead). omega (arith, run_fits ahead behind (a.ends short) (b.ends few) start n i r))
      (λ (all : n - 1 - ahead ≤ behind). omega arith)
      (cases_lt behind (n - 1 - ahead))

  -- and where there are as many, there is a run
  module _ (ahead behind : ℕ) (a : (k : ℕ) → 0 < k → k ≤ ahead → (to : ℕ × ℕ) × IsAhead way k at to × IsAlike eq t at to) (b : (k : ℕ) → 0 < k → k ≤ behind → (to : ℕ × ℕ) × IsAhead back k at to × IsAlike eq t at to) where
    start_of : (i : ℕ) → i ≤ behind → (start : ℕ × ℕ) × IsAhead back i at start
    start_of i le = ⊎_elim (λ (some : 0 < i). let w = b i some le in (w.0, w.1)) (λ (none : i ≤ 0).
        let zero_steps : i ≡ 0 = omega arith in
        (at, (omega (arith, ap (λ z. z * (box_of back).0) zero_steps), omega (arith, ap (λ z. z * (box_of back).1) zero_steps))))
        (cases_lt 0 i)

    run_of : (n i : ℕ) → InRange t at.0 at.1 → i < n → i ≤ behind → n ≤ i + 1 + ahead → (start : ℕ × ℕ) × IsRun eq t at way start n i
    run_of n i inside lt few fits =
        let w = start_of i few in
        let here = IsAhead-from_back way back opposite w.0 at at i 0 i (omega arith) w.1 (omega arith, omega arith) in (
          w.0,
          record {
            within = lt;
            here = here;
            in_range = inside;
            others = λ k less other.
                ⊎_elim (λ (before : k < i).
                let p = b (i - k) (omega arith) (omega arith) in
                (p.0, IsAhead-from_back way back opposite w.0 at p.0 k (i - k) i (omega arith) w.1 p.1, p.2))
                (λ (after : i ≤ k).
                let past : i < k = ⊎_elim (λ (l : i < k). l) (λ (g : k ≤ i). let same : k ≡ i = omega arith in absurd (other same)) (cases_lt i k) in
                let p = a (k - i) (omega arith) (omega arith) in
                (p.0, IsAhead-from_ahead way back opposite w.0 at p.0 i (k - i) k (omega arith) here p.1, p.2))
                (cases_lt k i);
          },
        )

    pub run_there : (n : ℕ) → InRange t at.0 at.1 → 0 < n → n ≤ ahead + behind + 1 → (start : ℕ × ℕ) × (i : ℕ) × IsRun eq t at way start n i
    run_there n inside some fits =
        ⊎_elim (λ (short : behind < n).
        let w = run_of n behind inside short (omega arith) (omega arith) in
        (w.0, behind, w.1))
        (λ (long : n ≤ behind).
        let w = run_of n (n - 1) inside (omega arith) (omega arith) (omega arith) in
        (w.0, n - 1, w.1))
        (cases_lt behind n)

  -- where enough are alike on one side, the other doesn't matter
  pub run_ahead : (ahead : ℕ) → ((k : ℕ) → 0 < k → k ≤ ahead → (to : ℕ × ℕ) × IsAhead way k at to × IsAlike eq t at to) → (n : ℕ) → InRange t at.0 at.1 → 0 < n → n ≤ ahead + 1 → (start : ℕ × ℕ) × (i : ℕ) × IsRun eq t at way start n i
  run_ahead ahead a n inside some fits = run_there ahead 0 a (λ k some le. absurd (omega arith)) n inside some (omega arith)

  -- the same run from its other end
  pub run_back : (start : ℕ × ℕ) (n i : ℕ) → IsRun eq t at way start n i → (end : ℕ × ℕ) × IsRun eq t at back end n (n - 1 - i)
  run_back start n i r = (
    end.0,
    record {
      within = omega (arith, r.within);
      here = IsAhead-to_back way back opposite start end.0 at i (n - 1 - i) (n - 1) (omega (arith, r.within)) end.1 r.here;
      in_range = r.in_range;
      others = λ k lt other.
          let p = r.others (n - 1 - k) (omega (arith, r.within)) (λ e. other (omega (arith, r.within, e))) in
          (p.0, IsAhead-to_back way back opposite start end.0 p.0 (n - 1 - k) k (n - 1) (omega arith) end.1 p.1, p.2);
    },
  )
    where
      end : (to : ℕ × ℕ) × IsAhead way (n - 1) start to
      end = ⊎_elim (λ (inner : i < n - 1).
          let w = r.others (n - 1) (omega arith) (λ e. omega arith) in
          (w.0, w.1))
          (λ (last : n - 1 ≤ i).
          let same : i ≡ n - 1 = omega (arith, r.within) in
          (at, subst (λ j. IsAhead way j start at) same r.here))
          (cases_lt i (n - 1))

-- a run in any direction is one in one of four
module _ {T : Type 0} (eq : T → T → Bool) (t : List (List T)) (at : ℕ × ℕ) (n : ℕ) {X : Type 0} (right : HasRunAlong eq t at Right n → X) (down_right : HasRunAlong eq t at DownRight n → X) (down : HasRunAlong eq t at Down n → X) (down_left : HasRunAlong eq t at DownLeft n → X) where
  turned : (way back : Direction) → AreOpposite way back → HasRunAlong eq t at way n → HasRunAlong eq t at back n
  turned way back opposite h =
      let w = run_back eq t at way back opposite h.0 n h.1 h.2 in (w.0, n - 1 - h.1, w.1)

  one_of_four : (way : Direction) → HasRunAlong eq t at way n → X
  one_of_four Right h = right h
  one_of_four DownRight h = down_right h
  one_of_four Down h = down h
  one_of_four DownLeft h = down_left h
  one_of_four Left h = right (turned Left Right (record { rows = refl; cols = refl }) h)
  one_of_four UpLeft h = down_right (turned UpLeft DownRight (record { rows = refl; cols = refl }) h)
  one_of_four Up h = down (turned Up Down (record { rows = refl; cols = refl }) h)
  one_of_four UpRight h = down_left (turned UpRight DownLeft (record { rows = refl; cols = refl }) h)

  pub HasRun-cases : HasRun eq t at n → X
  HasRun-cases h = one_of_four h.0 h.1
