-- A pass that reverses the order of p lines of q cells, after it exchanged the outer l on each side.
use Rattle.std.proofs.Common.{◌≡◌, ℕ, ◌+◌, ◌-◌, ◌*◌, ◌/◌, ◌<◌, ◌≤◌, List, length, refl, sym, ◌∙◌, ap, arith, ⊎_elim, slice_get, mul-le-mul_right}
use Rattle.grid.proofs.Common.{mul-add-lt, cases_lt, BlocksSwapped, LinesReversed}

pub record Reversing {T : Type 0} (p q l : ℕ) (old now : List T) : Type 0 where
  pub length_stays : length now ≡ length old
  pub front : (i j : ℕ) → i < l → j < q → slice_get now (i * q + j) ≡ slice_get old ((p - 1 - i) * q + j)
  pub back : (i j : ℕ) → i < l → j < q → slice_get now ((p - 1 - i) * q + j) ≡ slice_get old (i * q + j)
  pub kept : (i j : ℕ) → i < p → j < q → l ≤ i → l ≤ p - 1 - i → slice_get now (i * q + j) ≡ slice_get old (i * q + j)

pub reversing_none : {T : Type 0} (p q : ℕ) (xs : List T) → Reversing p q 0 xs xs
reversing_none p q xs =
    record {
      length_stays = refl;
      front = λ i j a b. absurd (omega arith);
      back = λ i j a b. absurd (omega arith);
      kept = λ i j a b c d. refl;
    }

-- the two lines of a step are apart, and the later one ends within the lines
pub lines_apart : (p q l : ℕ) → l < p / 2 → l * q + q ≤ (p - 1 - l) * q
lines_apart p q l half =
    let more : l + 1 ≤ p - 1 - l = omega arith in
    omega (arith, mul-le-mul_right q more)

pub lines_within : (p q l : ℕ) → l < p / 2 → (p - 1 - l) * q + q ≤ p * q
lines_within p q l half =
    let more : p - 1 - l + 1 ≤ p = omega arith in
    omega (arith, mul-le-mul_right q more)

pub reversing_more : {T : Type 0} (p q l : ℕ) (old now new : List T) → l < p / 2 → Reversing p q l old now → BlocksSwapped (l * q) ((p - 1 - l) * q) q now new → Reversing p q (l + 1) old new
reversing_more p q l old now new half h w =
    let apart = lines_apart p q l half in
    record {
      length_stays = w.length_stays ∙ h.length_stays;
      front = λ i j li lj.
          ⊎_elim (λ low.
          let under = mul-add-lt i q j l low lj in
          w.others (i * q + j) (λ c. absurd (omega arith)) (λ c. absurd (omega arith)) ∙ h.front i j low lj)
          (λ high.
          let same : i ≡ l = omega arith in
          let turn : p - 1 - (p - 1 - l) ≡ l = omega arith in
          ap (λ x. slice_get new (x * q + j)) same
          ∙ (w.first j lj ∙ (h.kept (p - 1 - l) j (omega arith) lj (omega arith) (omega arith) ∙ sym (ap (λ x. slice_get old ((p - 1 - x) * q + j)) same))))
          (cases_lt i l);
      back = λ i j li lj.
          ⊎_elim (λ low.
          let above : p - 1 - l + 1 ≤ p - 1 - i = omega arith in
          let over = mul-le-mul_right q above in
          w.others ((p - 1 - i) * q + j) (λ c. omega arith) (λ c. omega arith) ∙ h.back i j low lj)
          (λ high.
          let same : i ≡ l = omega arith in
          ap (λ x. slice_get new ((p - 1 - x) * q + j)) same
          ∙ (w.second j lj ∙ (h.kept l j (omega arith) lj (omega arith) (omega arith) ∙ sym (ap (λ x. slice_get old (x * q + j)) same))))
          (cases_lt i l);
      kept = λ i j li lj lo hi.
          let over = mul-le-mul_right q lo in
          let under = mul-add-lt i q j (p - 1 - l) (omega arith) lj in
          w.others (i * q + j) (λ c. omega arith) (λ c. absurd (omega arith)) ∙ h.kept i j li lj (omega arith) (omega arith);
    }

pub reversing_all : {T : Type 0} (p q l : ℕ) (old now : List T) → Reversing p q l old now → l ≡ p / 2 → LinesReversed p q old now
reversing_all p q l old now h e =
    record {
      length_stays = h.length_stays;
      moved = λ i j lt lj.
          ⊎_elim (λ low. h.front i j low lj)
          (λ high.
          ⊎_elim (λ low.
          let turn : p - 1 - (p - 1 - i) ≡ i = omega arith in
          sym (ap (λ x. slice_get now (x * q + j)) turn) ∙ h.back (p - 1 - i) j low lj)
          (λ mid.
          let same : i ≡ p - 1 - i = omega arith in
          h.kept i j lt lj high mid ∙ ap (λ x. slice_get old (x * q + j)) same)
          (cases_lt (p - 1 - i) l))
          (cases_lt i l);
    }
