-- Groups that are woven into lines one by one, the last first, and taken out of them one by one, the first first.
use Rattle.std.proofs.Common.{◌≡◌, ℕ, ◌+◌, ◌-◌, ◌*◌, ◌<◌, ◌≤◌, List, length, min, refl, sym, ◌∙◌, ap, arith, ⊎_elim, slice_get, mul-le-mul_right}
use Rattle.grid_base.proofs.Common.{cases_lt, cases_eq, BlocksExchanged, Woven}
use Rattle.grid_base.proofs.WeaveLemmas.{place_below}
use Rattle.grid_base.proofs.SpreadLemmas.{spread, spread_start, spread_run, spread_later, wide_lines, widened_by_spread}

-- the cells from x on are at their new places with the groups from g on between them; the g groups before those are at
-- x, and the cells before x have not moved
pub record Weaving {T : Type 0} (p q i k g x : ℕ) (old now : List T) : Type 0 where
  pub length_stays : length now ≡ length old
  pub placed : (y : ℕ) → x ≤ y → y < p * q → slice_get now (spread q i k y) ≡ slice_get old y
  pub kept : (y : ℕ) → y < x → slice_get now y ≡ slice_get old y
  pub waiting : (y : ℕ) → y < g * k → slice_get now (x + y) ≡ slice_get old (p * q + y)
  pub woven : (l j : ℕ) → g ≤ l → l < p → j < k → slice_get now (l * (q + k) + (i + j)) ≡ slice_get old (p * q + (l * k + j))

pub weaving_run : {T : Type 0} (p q i k g h z m x : ℕ) (old now new : List T) → g ≡ h + 1 → i ≤ q → h < p → z ≡ i + h * q → z ≤ p * q → x ≡ min (z + q) (p * q) → m ≡ x - z → Weaving p q i k g x old now → BlocksExchanged z m ((h + 1) * k) now new → Weaving p q i k h z old new
weaving_run p q i k g h z m x old now new same le lh ez lz ex em before moved =
    let w = rw same at before in
    let e : z + (q - i) ≡ (h + 1) * q = omega arith in
    record {
      length_stays = moved.length_stays ∙ w.length_stays;
      placed = λ y lo hi.
          ⊎_elim (λ low.
          ap (slice_get new) (spread_run p q i k z (h + 1) le e y lo (omega arith) ∙ (omega arith))
          ∙ (moved.first (y - z) (omega arith) ∙ (ap (slice_get now) (omega arith) ∙ w.kept y low)))
          (λ high.
          let far = spread_later p q i k z (h + 1) le e x y (wide_lines p q (omega arith)) (omega arith) high in
          moved.behind (spread q i k y) (omega arith) ∙ w.placed y high hi) (cases_lt y x);
      kept = λ y lt. moved.before y lt ∙ w.kept y (omega arith);
      waiting = λ y lt. moved.second y (omega arith) ∙ (ap (slice_get now) (omega arith) ∙ w.waiting y (omega arith));
      woven = λ l j lo hi lj.
          ⊎_elim (λ here.
          ap (slice_get new) (ap (λ v. v * (q + k) + (i + j)) here ∙ omega arith)
          ∙ (moved.second (h * k + j) (omega arith)
          ∙ (ap (slice_get now) (omega arith)
          ∙ (w.waiting (h * k + j) (omega arith) ∙ ap (λ v. slice_get old (p * q + (v * k + j))) (sym here)))))
          (λ later.
          let above : h + 1 ≤ l = omega arith in
          moved.behind (l * (q + k) + (i + j)) (omega (arith, mul-le-mul_right (q + k) above)) ∙ w.woven l j above hi lj) (cases_eq l h);
    }

pub weaving_end : {T : Type 0} (p q i k g x : ℕ) (old now : List T) → i ≤ q → g ≡ 0 → (0 < p → x ≡ i) → Weaving p q i k g x old now → Woven p q i k old now
weaving_end p q i k g x old now le none some w =
    record {
      lengths = w.length_stays;
      lines = widened_by_spread p q i k old now le
          (λ y lt.
          ⊎_elim (λ low. ap (slice_get now) (spread_start q i k y le (⊎_elim (λ n. absurd (omega (arith, ap (λ v. v * q) n))) (λ s_not. omega (arith, some (omega arith))) (cases_eq p 0))) ∙ w.kept y low)
          (λ high. w.placed y high lt) (cases_lt y x));
      groups = λ l j a b. w.woven l j (omega arith) a b;
    }

-- the cells before x are at their places in the closed lines, the groups before line g are at x, and the cells after
-- those have not moved
pub record Unweaving {T : Type 0} (p q i k g x : ℕ) (old now : List T) : Type 0 where
  pub length_stays : length now ≡ length old
  pub placed : (y : ℕ) → y < x → slice_get old (spread q i k y) ≡ slice_get now y
  pub taken : (l j : ℕ) → l < g → j < k → slice_get old (l * (q + k) + (i + j)) ≡ slice_get now (x + (l * k + j))
  pub rest : (y : ℕ) → x + g * k ≤ y → slice_get old y ≡ slice_get now y

pub unweaving_none : {T : Type 0} (p q i k : ℕ) (xs : List T) → i ≤ q → Unweaving p q i k 0 i xs xs
unweaving_none p q i k xs le =
    record {
      length_stays = refl;
      placed = λ y lt. ap (slice_get xs) (spread_start q i k y le lt);
      taken = λ l j a b. absurd (omega arith);
      rest = λ y a. refl;
    }

pub unweaving_run : {T : Type 0} (p q i k g x m z : ℕ) (old now new : List T) → i ≤ q → x ≡ i + g * q → x ≤ p * q → m ≡ min q (p * q - x) → Unweaving p q i k g x old now → BlocksExchanged x ((g + 1) * k) m now new → z ≡ x + m → Unweaving p q i k (g + 1) z old new
unweaving_run p q i k g x m z old now new le ex lx em u moved ez =
    let e : x + (q - i) ≡ (g + 1) * q = omega arith in
    record {
      length_stays = moved.length_stays ∙ u.length_stays;
      placed = λ y hi.
          ⊎_elim (λ low. u.placed y low ∙ sym (moved.before y low))
          (λ high.
          ap (slice_get old) (spread_run p q i k x (g + 1) le e y high (omega arith))
          ∙ (u.rest (y + (g + 1) * k) (omega arith)
          ∙ (ap (slice_get now) (omega arith) ∙ (sym (moved.second (y - x) (omega arith)) ∙ ap (slice_get new) (omega arith))))) (cases_lt y x);
      taken = λ l j lt lj.
          let inside = place_below l k j (g + 1) lt lj in
          ⊎_elim (λ early.
          u.taken l j early lj ∙ (sym (moved.first (l * k + j) inside) ∙ ap (slice_get new) (omega arith)))
          (λ not_early.
          let here : l ≡ g = omega arith in
          let at : l * (q + k) + (i + j) ≡ x + (l * k + j) = ap (λ v. v * (q + k) + (i + j)) here ∙ (omega arith ∙ ap (λ v. x + (v * k + j)) (sym here)) in
          let behind : x + g * k ≤ x + (l * k + j) = omega (arith, ap (λ v. v * k) here) in
          ap (slice_get old) at ∙ (u.rest (x + (l * k + j)) behind ∙ (sym (moved.first (l * k + j) inside) ∙ ap (slice_get new) (omega arith)))) (cases_lt l g);
      rest = λ y lo. u.rest y (omega arith) ∙ sym (moved.behind y (omega arith));
    }

pub unweaving_end : {T : Type 0} (p q i k g x : ℕ) (old now : List T) → i ≤ q → g ≡ p → (0 < p → x ≡ p * q) → Unweaving p q i k g x old now → Woven p q i k now old
unweaving_end p q i k g x old now le all end u =
    record {
      lengths = sym u.length_stays;
      lines = widened_by_spread p q i k now old le
          (λ y lt. u.placed y (⊎_elim (λ n. absurd (omega (arith, ap (λ v. v * q) n))) (λ s_not. omega (arith, end (omega arith))) (cases_eq p 0)));
      groups = λ l j a b. u.taken l j (omega arith) b ∙ ap (slice_get now) (omega (arith, end (omega arith)));
    }
