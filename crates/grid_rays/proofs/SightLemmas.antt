-- What is seen along a straight line, position by position, and the same from the other end.
use Rattle.std.proofs.Common.{◌≡◌, ◌↔◌, ℕ, ◌+◌, ◌-◌, ◌^◌, ◌<◌, ◌≤◌, Bool, IsTrue, true, false, Some, List, length, slice_get, sym, ◌∙◌, ap, subst, refl, arith, Bor, ⊎_elim}
use Rattle.std.proofs.lemmas.Bool.{cases_lt, false≢true}
use Rattle.grid_base.specs.Table.{InRange}
use Rattle.grid_base.proofs.PartLemmas.{get-reverse}
use Rattle.grid.specs.Prelude.{AnswersAt}
use Rattle.grid_rays.specs.Segments.{steps_between, point, segment}
use Rattle.grid_rays.specs.Drawn.{IsReached, IsDrawn}
use Rattle.grid_rays.specs.Sight.{IsBetween, IsSeen, Passes, Sees, IsTest, TellsSeen}
use Rattle.grid_rays.proofs.SegmentLemmas.{reached_at}
use Rattle.grid_rays.proofs.StraightLemmas.{length-segment, get-segment, same_steps, segment_back, IsStraight-segment}

-- the next position of a line
reached_as : (a b c d i j k x past : ℕ) → c ≡ a → d ≡ b → k ≡ j → IsReached c d i j x past → IsReached a b i k x past
reached_as a b c d i j k x past e f g h = rw (sym e, sym f, g) h

pub IsDrawn-next : (a b from to at past : ℕ × ℕ) (done steps : ℕ) → from.0 ≡ a.0 → to.0 ≡ b.0 → from.1 ≡ a.1 → to.1 ≡ b.1 → steps ≡ steps_between a b → steps < 2 ^ 64 → done < steps → IsReached from.0 to.0 (done + 1) (steps - done - 1) at.0 past.0 → IsReached from.1 to.1 (done + 1) (steps - done - 1) at.1 past.1 → IsDrawn a b at past (done + 1) (steps - (done + 1))
IsDrawn-next a b from to at past done steps from_row to_row from_col to_col total fits lt rows cols =
    let left : steps - (done + 1) ≡ steps - done - 1 = omega arith in
    record {
      rows = reached_as a.0 b.0 from.0 to.0 (done + 1) _ _ at.0 past.0 from_row to_row left rows;
      cols = reached_as a.1 b.1 from.1 to.1 (done + 1) _ _ at.1 past.1 from_col to_col left cols;
      total = omega (arith, total);
      fits = omega (arith, fits);
    }

-- where a line has come to
module _ (a b at past : ℕ × ℕ) (done left : ℕ) (h : IsDrawn a b at past done left) where
  here : slice_get (segment a b) done ≡ Some at
  here =
      let rest : left ≡ steps_between a b - done = omega (arith, h.total) in
      get-segment a b done (omega (arith, h.total))
      ∙ ap Some (subst (λ j. point a b done j ≡ at) rest (reached_at a b at past done left h))

  pub in_view : (m n : ℕ) → (a.0 < m) × (a.1 < n) → (b.0 < m) × (b.1 < n) → (at.0 < m) × (at.1 < n)
  in_view m n from_in to_in =
      let straight = IsStraight-segment a b in
      (straight.row_in done m at here from_in.0 to_in.0, straight.col_in done n at here from_in.1 to_in.1)

  pub IsBetween-here : 0 < done → 0 < left → IsBetween a b at
  IsBetween-here some more = record { steps = done; after = some; before = omega (arith, more, h.total); there = here }

-- a line passed step by step, of whose positions beyond the first P holds
module _ (P : ℕ × ℕ → Type 0) (a b : ℕ × ℕ) where
  abbrev AreClear : ℕ → Type 0
  AreClear done = (k : ℕ) (p : ℕ × ℕ) → 0 < k → k ≤ done → slice_get (segment a b) k ≡ Some p → P p

  pub record IsLooking (at past : ℕ × ℕ) (done left : ℕ) : Type 0 where
    pub drawn : IsDrawn a b at past done left
    pub clear : AreClear done

  pub IsLooking-next : (at past : ℕ × ℕ) (done left : ℕ) → IsDrawn a b at past (done + 1) left → AreClear done → P at → IsLooking at past (done + 1) left
  IsLooking-next at past done left h clear holds = record {
    drawn = h;
    clear = λ k p some le e.
        ⊎_elim (λ (old : k < done + 1). clear k p some (omega arith) e)
        (λ (new : done + 1 ≤ k).
        let same : done + 1 ≡ k = omega arith in
        let there : at ≡ p = cc (here a b at past (done + 1) left h, ap (slice_get (segment a b)) same, e) in
        subst P there holds)
        (cases_lt k (done + 1));
  }

  pub IsSeen-end : {T : Type 0} (t : List (List T)) (at past : ℕ × ℕ) (done left : ℕ) → IsLooking at past done left → left ≤ 1 → InRange t a.0 a.1 → InRange t b.0 b.1 → IsSeen P t a b
  IsSeen-end t at past done left h last from_in to_in = record {
    from_in = from_in;
    to_in = to_in;
    clear = λ p w. h.clear w.steps p w.after (omega (arith, w.before, h.drawn.total)) w.there;
  }

-- from the other end
between_back : (a b at : ℕ × ℕ) → IsBetween b a at → IsBetween a b at
between_back a b at w =
    let n = steps_between a b in
    let inside : w.steps < length (segment a b) = omega (arith, w.before, length-segment a b, same_steps a b) in
    let mirrored : length (segment a b) - 1 - w.steps ≡ n - w.steps = omega (arith, length-segment a b) in
    record {
      steps = n - w.steps;
      after = omega (arith, w.before, same_steps a b);
      before = omega (arith, w.after, w.before, same_steps a b);
      there = ap (slice_get (segment a b)) (sym mirrored) ∙ (sym (get-reverse (segment a b) w.steps inside) ∙ (ap (λ xs. slice_get xs w.steps) (sym (segment_back a b)) ∙ w.there));
    }

pub IsSeen-back : {T : Type 0} (P : ℕ × ℕ → Type 0) (t : List (List T)) (a b : ℕ × ℕ) → IsSeen P t a b → IsSeen P t b a
IsSeen-back P t a b h = record {
  from_in = h.to_in;
  to_in = h.from_in;
  clear = λ at w. h.clear at (between_back a b at w);
}

-- what a test says
module _ {F T : Type 0} (returns : F → Bor T → Bool → Type 0) (f : F) (t : List (List T)) (p : T → Bool) (test : IsTest returns f p) (a b : ℕ × ℕ) where
  passes_of : (at : ℕ × ℕ) → AnswersAt returns f t at true → Passes p t at
  passes_of at w = record { found = w.0.now; there = w.1; passes = test w.0 true w.2 }

  fails_of : (at : ℕ × ℕ) → AnswersAt returns f t at false → Passes p t at → ⊥
  fails_of at w h =
      let same : h.found ≡ w.0.now = cc (h.there, w.1) in
      let no : p w.0.now ≡ false = test w.0 false w.2 in
      let yes : p h.found ≡ true = h.passes in
      false≢true (sym no ∙ (ap p (sym same) ∙ yes))

  pub Sees-told : (seen : Bool) → TellsSeen returns f t a b seen → IsTrue seen ↔ Sees p t a b
  Sees-told true h = (
    λ e. record { from_in = h.from_in; to_in = h.to_in; clear = λ at w. passes_of at (h.clear at w) },
    λ s. refl,
  )
  Sees-told false h = (
    λ e. absurd (false≢true e),
    λ s. let w = h.by s.from_in s.to_in in absurd (fails_of w.0 w.2 (s.clear w.0 w.1)),
  )

  pub Sees-told_back : (seen : Bool) → TellsSeen returns f t a b seen → IsTrue seen ↔ Sees p t b a
  Sees-told_back seen h =
      let told = Sees-told seen h in
      (λ e. IsSeen-back (Passes p t) t a b (told.0 e), λ s. told.1 (IsSeen-back (Passes p t) t b a s))
