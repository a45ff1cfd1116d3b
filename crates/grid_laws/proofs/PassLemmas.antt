-- The three forms in which a flip exchanges the places of p lines of q items each: lines, each
-- line, or all.
use Rattle.std.proofs.Common.{◌≡◌, ℕ, zero, suc, ◌+◌, ◌-◌, ◌*◌, ◌/◌, ◌%◌, ◌<◌, ◌≤◌, refl, sym, ◌∙◌, ap, arith, ⊎_elim, div-add-mod', mul-le-mul_right}
use Rattle.grid_laws.proofs.Common.{mul-add-lt, div_below, mod_below, div-mul-add, mod-mul-add, same_from_place, cases_lt}
use Rattle.grid_laws.proofs.PigeonLemmas.{AreDifferent}
use Rattle.grid_laws.proofs.MirrorLemmas.{IsMirror}

-- place k is item j of line i
pub record IsCut (p q k : ℕ) : Type 0 where
  pub i : ℕ
  pub j : ℕ
  pub li : i < p
  pub lj : j < q
  pub is : k ≡ i * q + j

pub cut : (p q k : ℕ) → k < p * q → IsCut p q k
cut p zero k lt = absurd (omega arith)
cut p (suc q) k lt =
    record {
      i = k / suc q;
      j = k % suc q;
      li = div_below k (suc q) p (omega arith) lt;
      lj = mod_below k (suc q) (omega arith);
      is = sym (div-add-mod' k (suc q));
    }

-- the lines in opposite order
pub across : ℕ → ℕ → ℕ → ℕ
across p q k = (p - 1 - k / q) * q + k % q

pub across_at : (p q i j : ℕ) → j < q → across p q (i * q + j) ≡ (p - 1 - i) * q + j
unfolding across
across_at p q i j lt = ap (λ x. (p - 1 - x) * q + (i * q + j) % q) (div-mul-add i q j lt) ∙ ap (λ x. (p - 1 - i) * q + x) (mod-mul-add i q j lt)

-- each line in opposite order
pub along : ℕ → ℕ → ℕ → ℕ
along p q k = k / q * q + (q - 1 - k % q)

pub along_at : (p q i j : ℕ) → j < q → along p q (i * q + j) ≡ i * q + (q - 1 - j)
unfolding along
along_at p q i j lt = ap (λ x. x * q + (q - 1 - (i * q + j) % q)) (div-mul-add i q j lt) ∙ ap (λ x. i * q + (q - 1 - x)) (mod-mul-add i q j lt)

identity_different : (n : ℕ) → AreDifferent n (λ x. x)
identity_different n = record { different = λ x y a b e. e }

-- an earlier line has earlier places
pub line_before : (q i j x y : ℕ) → i < x → j < q → i * q + j < x * q + y
line_before q i j x y a b = let low = mul-add-lt i q j x a b in omega arith

pub mirror_across : (p q : ℕ) → IsMirror (p * q) (p / 2 * q) (across p q) (λ x. x)
mirror_across p q = record {
  inside = λ k lt.
      let c = cut p q k lt in
      let at : across p q k ≡ (p - 1 - c.i) * q + c.j = ap (across p q) c.is ∙ across_at p q c.i c.j c.lj in
      let low = c.li in
      let in_all = mul-add-lt (p - 1 - c.i) q c.j p (omega arith) c.lj in
      omega arith;
  back = λ k lt.
      let c = cut p q k lt in
      let low = c.li in
      let turn : p - 1 - (p - 1 - c.i) ≡ c.i = omega arith in
      ap (λ x. across p q (across p q x)) c.is
      ∙ (ap (across p q) (across_at p q c.i c.j c.lj)
      ∙ (across_at p q (p - 1 - c.i) c.j c.lj ∙ (ap (λ x. x * q + c.j) turn ∙ sym c.is)));
  different = identity_different (p / 2 * q);
  earlier = λ x lt.
      let c = cut (p / 2) q x lt in
      let low = c.li in
      let at : across p q x ≡ (p - 1 - c.i) * q + c.j = ap (across p q) c.is ∙ across_at p q c.i c.j c.lj in
      let before = line_before q c.i c.j (p - 1 - c.i) c.j (omega arith) c.lj in
      let is = c.is in
      omega arith;
  below = λ x lt.
      let half : p / 2 ≤ p = omega arith in
      let le = mul-le-mul_right q half in
      omega arith;
  all = λ k lt up.
      let c = cut p q k lt in
      let low = c.li in
      let is = c.is in
      let at : across p q k ≡ (p - 1 - c.i) * q + c.j = ap (across p q) c.is ∙ across_at p q c.i c.j c.lj in
      let early : c.i < p / 2 =
      ⊎_elim (λ h. h)
      (λ h.
      let late : p - 1 - c.i ≤ c.i = omega arith in
      let le = mul-le-mul_right q late in
      absurd (omega arith))
      (cases_lt c.i (p / 2)) in
      let in_half = mul-add-lt c.i q c.j (p / 2) early c.lj in
      (k, omega arith, refl);
}

-- the first half of each line
pub halves : ℕ → ℕ → ℕ
halves q x = x / (q / 2) * q + x % (q / 2)

halves_at : (q i j : ℕ) → j < q / 2 → halves q (i * (q / 2) + j) ≡ i * q + j
unfolding halves
halves_at q i j lt = ap (λ x. x * q + (i * (q / 2) + j) % (q / 2)) (div-mul-add i (q / 2) j lt) ∙ ap (λ x. i * q + x) (mod-mul-add i (q / 2) j lt)

pub mirror_along : (p q : ℕ) → IsMirror (p * q) (p * (q / 2)) (along p q) (halves q)
mirror_along p q = record {
  inside = λ k lt.
      let c = cut p q k lt in
      let low = c.lj in
      let at : along p q k ≡ c.i * q + (q - 1 - c.j) = ap (along p q) c.is ∙ along_at p q c.i c.j c.lj in
      let in_all = mul-add-lt c.i q (q - 1 - c.j) p c.li (omega arith) in
      omega arith;
  back = λ k lt.
      let c = cut p q k lt in
      let low = c.lj in
      let turn : q - 1 - (q - 1 - c.j) ≡ c.j = omega arith in
      ap (λ x. along p q (along p q x)) c.is
      ∙ (ap (along p q) (along_at p q c.i c.j c.lj)
      ∙ (along_at p q c.i (q - 1 - c.j) (omega arith) ∙ (ap (λ x. c.i * q + x) turn ∙ sym c.is)));
  different = record {
    different = λ x y a b e.
        let c = cut p (q / 2) x a in
        let d = cut p (q / 2) y b in
        let lc = c.lj in
        let ld = d.lj in
        let same = same_from_place c.i c.j d.i d.j q (omega arith) (omega arith)
        (sym (halves_at q c.i c.j c.lj) ∙ (ap (halves q) (sym c.is) ∙ (e ∙ (ap (halves q) d.is ∙ halves_at q d.i d.j d.lj)))) in
        c.is ∙ (ap (λ i. i * (q / 2) + c.j) same.0 ∙ (ap (λ j. d.i * (q / 2) + j) same.1 ∙ sym d.is));
  };
  earlier = λ x lt.
      let c = cut p (q / 2) x lt in
      let low = c.lj in
      let at : halves q x ≡ c.i * q + c.j = ap (halves q) c.is ∙ halves_at q c.i c.j c.lj in
      let there : along p q (halves q x) ≡ c.i * q + (q - 1 - c.j) = ap (along p q) at ∙ along_at p q c.i c.j (omega arith) in
      omega arith;
  below = λ x lt.
      let c = cut p (q / 2) x lt in
      let low = c.lj in
      let at : halves q x ≡ c.i * q + c.j = ap (halves q) c.is ∙ halves_at q c.i c.j c.lj in
      let in_all = mul-add-lt c.i q c.j p c.li (omega arith) in
      omega arith;
  all = λ k lt up.
      let c = cut p q k lt in
      let low = c.lj in
      let is = c.is in
      let at : along p q k ≡ c.i * q + (q - 1 - c.j) = ap (along p q) c.is ∙ along_at p q c.i c.j c.lj in
      let early : c.j < q / 2 = omega arith in
      let in_halves = mul-add-lt c.i (q / 2) c.j p c.li early in
      (c.i * (q / 2) + c.j, omega arith, is ∙ sym (halves_at q c.i c.j early));
}

-- all in opposite order
pub mirror_whole : (n : ℕ) → IsMirror n (n / 2) (λ k. n - 1 - k) (λ x. x)
mirror_whole n = record {
  inside = λ k lt. omega arith;
  back = λ k lt. omega arith;
  different = identity_different (n / 2);
  earlier = λ x lt. omega arith;
  below = λ x lt. omega arith;
  all = λ k lt up. (k, omega arith, refl);
}
