-- Groups that come to their places in lines one by one, the first first, and leave them one by one, the last first.
use Rattle.std.proofs.Common.{subst, ◌≡◌, ℕ, ◌+◌, ◌-◌, ◌*◌, ◌<◌, ◌≤◌, List, length, refl, sym, ◌∙◌, ap, arith, ⊎_elim, slice_get, mul-le-mul_right}
use Rattle.grid_base.proofs.Common.{cases_lt, cases_eq, BlocksExchanged, Woven}
use Rattle.grid_base.proofs.SpreadLemmas.{spread, spread_start, spread_run, widened_by_spread}

-- the groups before line g are at their places, and so are the cells of the lines up to there; the other cells of the
-- lines are after them, and the other groups have not moved
pub record Bringing {T : Type 0} (p q i k g : ℕ) (old now : List T) : Type 0 where
  pub length_stays : length now ≡ length old
  pub placed : (y : ℕ) → y < p * q → y < i + g * q → (spread q i k y < i + g * (q + k)) × (slice_get now (spread q i k y) ≡ slice_get old y)
  pub later : (y : ℕ) → i + g * q ≤ y → y < p * q → slice_get now (y + g * k) ≡ slice_get old y
  pub woven : (l j : ℕ) → l < g → j < k → slice_get now (l * (q + k) + (i + j)) ≡ slice_get old (p * q + (l * k + j))
  pub rest : (y : ℕ) → p * q + g * k ≤ y → slice_get now y ≡ slice_get old y

pub bringing_none : {T : Type 0} (p q i k : ℕ) (xs : List T) → i ≤ q → Bringing p q i k 0 xs xs
bringing_none p q i k xs le =
    record {
      length_stays = refl;
      placed = λ y a b. let s = spread_start q i k y le (omega arith) in (omega (arith, s), ap (slice_get xs) s);
      later = λ y a b. ap (slice_get xs) (omega arith);
      woven = λ l j a b. absurd (omega arith);
      rest = λ y a. refl;
    }

pub bringing_more : {T : Type 0} (p q i k g z m : ℕ) (old now new : List T) → k ≡ 1 → i ≤ q → g + 1 ≤ p → z ≡ i + g * (q + k) → m ≡ p * q + g * k - z → Bringing p q i k g old now → BlocksExchanged z m 1 now new → Bringing p q i k (g + 1) old new
bringing_more p q i k g z m old now new one le lp ez em w moved_one =
    let moved : BlocksExchanged z m k now new = subst (λ n. BlocksExchanged z m n now new) (sym one) moved_one in
    let fits : (g + 1) * q ≤ p * q = mul-le-mul_right q lp in
    let e : i + g * q + (q - i) ≡ (g + 1) * q = omega arith in
    record {
      length_stays = moved.length_stays ∙ w.length_stays;
      placed = λ y a b.
          ⊎_elim (λ low. let at = w.placed y a low in (omega (arith, at.0), moved.before (spread q i k y) (omega (arith, at.0)) ∙ at.1))
          (λ high.
          let s : spread q i k y ≡ y + (g + 1) * k = spread_run p q i k (i + g * q) (g + 1) le e y high (omega arith) in (
            omega (arith, s),
            ap (slice_get new) (s ∙ (omega arith))
                ∙ (moved.first (y - (i + g * q)) (omega arith) ∙ (ap (slice_get now) (omega arith) ∙ w.later y high a)),
          )) (cases_lt y (i + g * q));
      later = λ y lo hi.
          ap (slice_get new) (omega arith)
          ∙ (moved.first (y - (i + g * q)) (omega arith) ∙ (ap (slice_get now) (omega arith) ∙ w.later y (omega arith) hi));
      woven = λ l j lt lj.
          ⊎_elim (λ here.
          ap (slice_get new) (ap (λ v. v * (q + k) + (i + j)) here ∙ omega arith)
          ∙ (moved.second j lj
          ∙ (ap (slice_get now) (omega arith)
          ∙ (w.rest (p * q + (g * k + j)) (omega arith) ∙ ap (λ v. slice_get old (p * q + (v * k + j))) (sym here)))))
          (λ early.
          let below : l + 1 ≤ g = omega arith in
          moved.before (l * (q + k) + (i + j)) (omega (arith, mul-le-mul_right (q + k) below)) ∙ w.woven l j (omega arith) lj) (cases_eq l g);
      rest = λ y lo. moved.behind y (omega arith) ∙ w.rest y (omega arith);
    }

pub bringing_end : {T : Type 0} (p q i k g : ℕ) (old now : List T) → i ≤ q → g ≡ p → Bringing p q i k g old now → Woven p q i k old now
bringing_end p q i k g old now le all w =
    let whole = ap (λ v. v * q) all in
    record {
      lengths = w.length_stays;
      lines = widened_by_spread p q i k old now le (λ y lt. (w.placed y lt (omega arith)).1);
      groups = λ l j a b. w.woven l j (omega arith) b;
    }

-- the groups from line g on are after the lines, after the cells of the lines after them; the cells before them have
-- not moved
pub record Sending {T : Type 0} (p q i k g : ℕ) (old now : List T) : Type 0 where
  pub length_stays : length now ≡ length old
  pub front : (x : ℕ) → x < i + g * (q + k) → slice_get now x ≡ slice_get old x
  pub later : (y : ℕ) → i + g * q ≤ y → y < p * q → slice_get now (y + g * k) ≡ slice_get old (spread q i k y)
  pub taken : (l j : ℕ) → g ≤ l → l < p → j < k → slice_get now (p * q + (l * k + j)) ≡ slice_get old (l * (q + k) + (i + j))

pub sending_none : {T : Type 0} (p q i k : ℕ) (xs : List T) → Sending p q i k p xs xs
sending_none p q i k xs =
    record {
      length_stays = refl;
      front = λ x a. refl;
      later = λ y a b. absurd (omega arith);
      taken = λ l j a b c. absurd (omega arith);
    }

pub sending_more : {T : Type 0} (p q i k g h z m : ℕ) (old now new : List T) → g ≡ h + 1 → k ≡ 1 → i ≤ q → h + 1 ≤ p → z ≡ i + h * (q + k) → m ≡ p * q + h * k - z → Sending p q i k g old now → BlocksExchanged z 1 m now new → Sending p q i k h old new
sending_more p q i k g h z m old now new same one le lp ez em u moved_one =
    let s = rw same at u in
    let moved : BlocksExchanged z k m now new = subst (λ n. BlocksExchanged z n m now new) (sym one) moved_one in
    let fits : (h + 1) * q ≤ p * q = mul-le-mul_right q lp in
    let e : i + h * q + (q - i) ≡ (h + 1) * q = omega arith in
    record {
      length_stays = moved.length_stays ∙ s.length_stays;
      front = λ x lt. moved.before x (omega arith) ∙ s.front x (omega arith);
      later = λ y lo hi.
          ap (slice_get new) (omega arith)
          ∙ (moved.second (y - (i + h * q)) (omega arith)
          ∙ ⊎_elim (λ run.
          let at : spread q i k y ≡ y + (h + 1) * k = spread_run p q i k (i + h * q) (h + 1) le e y lo (omega arith) in
          s.front _ (omega arith) ∙ ap (slice_get old) (sym (at ∙ omega arith)))
          (λ far. ap (slice_get now) (omega arith) ∙ s.later y (omega arith) hi) (cases_lt y (i + (h + 1) * q)));
      taken = λ l j lo hi lj.
          ⊎_elim (λ here.
          ap (slice_get new) (ap (λ v. p * q + (v * k + j)) here ∙ omega arith)
          ∙ (moved.first j lj
          ∙ (s.front (z + j) (omega arith)
          ∙ ap (slice_get old) (sym (ap (λ v. v * (q + k) + (i + j)) here ∙ omega arith)))))
          (λ later.
          let above : h + 1 ≤ l = omega arith in
          moved.behind (p * q + (l * k + j)) (omega (arith, mul-le-mul_right k above)) ∙ s.taken l j above hi lj) (cases_eq l h);
    }

pub sending_end : {T : Type 0} (p q i k g : ℕ) (old now : List T) → i ≤ q → g ≡ 0 → Sending p q i k g old now → Woven p q i k now old
sending_end p q i k g old now le none u =
    let s = rw none at u in
    record {
      lengths = sym s.length_stays;
      lines = widened_by_spread p q i k now old le
          (λ y lt.
          ⊎_elim (λ low. ap (slice_get old) (spread_start q i k y le low) ∙ sym (s.front y (omega arith)))
          (λ high. sym (s.later y (omega arith) lt) ∙ ap (slice_get now) (omega arith)) (cases_lt y i));
      groups = λ l j a b. sym (s.taken l j (omega arith) a b);
    }
