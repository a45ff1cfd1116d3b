-- A straight line: its ends, its steps, how near it is, and the line back.
use Rattle.std.proofs.Common.{◌≡◌, ℕ, zero, suc, ◌+◌, ◌-◌, ◌*◌, ◌/◌, ◌%◌, ◌<◌, ◌≤◌, Some, length, reverse, slice_get, sym, ◌∙◌, ap, refl, subst, arith, ⊎_elim, get_or}
use Rattle.std.specs.Int.{abs_diff}
use Rattle.std.proofs.Math.Nat.{mul-le-mul_left, div-add-mod, mod-lt}
use Rattle.std.proofs.lemmas.Bool.{cases_lt}
use Rattle.std.proofs.lemmas.List.{ext_get_or, get_or-reverse, length-reverse}
use Rattle.std.proofs.lemmas.List.FromFn.{length-map-range_with_len, get_or-map-range_with_len}
use Rattle.std.proofs.lemmas.Option.{slice_get-get_or, slice_get_within}
use Rattle.grid_rays.specs.Segments.{nearest, steps_between, point, segment, IsNear, IsStraight}
use Rattle.grid_rays.specs.Drawn.{IsReached}
use Rattle.grid_rays.proofs.SegmentLemmas.{nearest_is}

-- what the rounding to the nearest takes off
reached : (a b i j : ℕ) → (past : ℕ) × IsReached a b i j (nearest a b i j) past
reached a b zero zero = (0, record { sum = omega arith; below = λ s. absurd (omega arith); still = λ e. refl })
reached a b zero (suc j) = (
  suc j / 2,
  record { sum = omega arith; below = λ s. omega arith; still = λ e. refl },
)
reached a b (suc i) j =
    let all = j * a + suc i * b + (suc i + j) / 2 in
    let parts : (suc i + j) * (all / (suc i + j)) + all % (suc i + j) ≡ all = div-add-mod all (suc i + j) in (
      all % (suc i + j),
      record {
        sum = parts;
        below = λ s. mod-lt all s;
        still = λ e. absurd (omega arith);
      },
    )

module _ (a b i j x past : ℕ) (h : IsReached a b i j x past) where
  near_of : IsNear a b i j x
  near_of = ⊎_elim (λ (some : 0 < i + j). record { not_above = omega (arith, h.sum); not_below = omega (arith, h.sum, h.below some) }) (λ (none : i + j ≤ 0).
      let no_i : i ≡ 0 = omega arith in
      let no_j : j ≡ 0 = omega arith in
      rw (no_i, no_j) (record { not_above = omega arith; not_below = omega arith }))
      (cases_lt 0 (i + j))

  below_of : (m : ℕ) → a < m → b < m → x < m
  below_of m la lb =
      ⊎_elim (λ (lt : x < m). lt) (λ (past_end : m ≤ x).
      let from_a : suc a ≤ m = omega arith in
      let from_b : suc b ≤ m = omega arith in
      let parts_a = mul-le-mul_left j from_a in
      let parts_b = mul-le-mul_left i from_b in
      let parts_x = mul-le-mul_left (i + j) past_end in
      ⊎_elim (λ (some : 0 < i + j). absurd (omega (arith, h.sum, h.below some, parts_a, parts_b, parts_x)))
      (λ (none : i + j ≤ 0). omega (arith, h.still (omega arith)))
      (cases_lt 0 (i + j)))
      (cases_lt x m)

-- from one step to the next
module _ (a b i j x y past next : ℕ) (h : IsReached a b i (suc j) x past) (n : IsReached a b (suc i) j y next) where
  not_more : abs_diff a b ≤ i + suc j → y ≤ x + 1
  not_more near =
      ⊎_elim (λ (lt : x + 1 < y).
      let two : x + 2 ≤ y = omega arith in
      let parts = mul-le-mul_left (i + suc j) two in
      absurd (omega (arith, parts, h.sum, n.sum, h.below (omega arith))))
      (λ (le : y ≤ x + 1). le)
      (cases_lt (x + 1) y)

  not_fewer : abs_diff a b ≤ i + suc j → x ≤ y + 1
  not_fewer near =
      ⊎_elim (λ (lt : y + 1 < x).
      let two : y + 2 ≤ x = omega arith in
      let parts = mul-le-mul_left (i + suc j) two in
      absurd (omega (arith, parts, h.sum, n.sum, n.below (omega arith))))
      (λ (le : x ≤ y + 1). le)
      (cases_lt (y + 1) x)

  -- where a step goes as far as it can
  moves : abs_diff a b ≡ i + suc j → x ≡ y → ⊥
  moves full e =
      let same : (i + suc j) * x ≡ (i + suc j) * y = ap (λ z. (i + suc j) * z) e in
      omega (arith, same, h.sum, n.sum, h.below (omega arith), n.below (omega arith))

one_apart : (x y : ℕ) → y ≤ x + 1 → x ≤ y + 1 → abs_diff x y ≤ 1
one_apart x y up down = omega arith

differ : (p q : ℕ × ℕ) → abs_diff p.0 q.0 ≤ 1 → abs_diff p.1 q.1 ≤ 1 → (p ≡ q → ⊥) → steps_between p q ≡ 1
differ p q rows cols other =
    ⊎_elim (λ (lt : steps_between p q < 1).
    let row : p.0 ≡ q.0 = omega arith in
    let col : p.1 ≡ q.1 = omega arith in
    let same : p ≡ q = ap (λ r. (r, p.1)) row ∙ ap (λ c. (q.0, c)) col in
    absurd (other same))
    (λ (le : 1 ≤ steps_between p q). omega (arith, le))
    (cases_lt (steps_between p q) 1)

-- of two positions of a line, one step apart
step_of : (a b : ℕ × ℕ) (i j : ℕ) → steps_between a b ≡ i + suc j → steps_between (point a b i (suc j)) (point a b (suc i) j) ≡ 1
step_of a b i j total =
    let row = reached a.0 b.0 i (suc j) in
    let col = reached a.1 b.1 i (suc j) in
    let next_row = reached a.0 b.0 (suc i) j in
    let next_col = reached a.1 b.1 (suc i) j in
    let rows = one_apart _ _ (not_more a.0 b.0 i j _ _ _ _ row.1 next_row.1 (omega arith)) (not_fewer a.0 b.0 i j _ _ _ _ row.1 next_row.1 (omega arith)) in
    let cols = one_apart _ _ (not_more a.1 b.1 i j _ _ _ _ col.1 next_col.1 (omega arith)) (not_fewer a.1 b.1 i j _ _ _ _ col.1 next_col.1 (omega arith)) in
    ⊎_elim (λ (short : abs_diff a.0 b.0 < i + suc j).
    let turns = moves a.1 b.1 i j _ _ _ _ col.1 next_col.1 (omega arith) in
    differ (nearest a.0 b.0 i (suc j), nearest a.1 b.1 i (suc j)) (nearest a.0 b.0 (suc i) j, nearest a.1 b.1 (suc i) j) rows cols (λ e. turns (ap (λ z. z.1) e)))
    (λ (long : i + suc j ≤ abs_diff a.0 b.0).
    let turns = moves a.0 b.0 i j _ _ _ _ row.1 next_row.1 (omega arith) in
    differ (nearest a.0 b.0 i (suc j), nearest a.1 b.1 i (suc j)) (nearest a.0 b.0 (suc i) j, nearest a.1 b.1 (suc i) j) rows cols (λ e. turns (ap (λ z. z.0) e)))
    (cases_lt (abs_diff a.0 b.0) (i + suc j))

-- the end, and the same counted from the other end
nearest_end : (a b i : ℕ) → (i ≡ 0 → a ≡ b) → nearest a b i 0 ≡ b
nearest_end a b i same =
    nearest_is a b i 0 b (i / 2) (record {
      sum = omega arith;
      below = λ s. omega arith;
      still = λ e. sym (same (omega arith));
    })

nearest_back : (a b i j : ℕ) → (i + j ≡ 0 → a ≡ b) → nearest b a j i ≡ nearest a b i j
nearest_back a b i j same =
    let r = reached a b i j in
    nearest_is b a j i (nearest a b i j) r.0 (record {
      sum = omega (arith, r.1.sum);
      below = λ s. omega (arith, r.1.below (omega arith));
      still = λ e. omega (arith, r.1.still (omega arith), same (omega arith));
    })

-- the positions by their number
module _ (a b : ℕ × ℕ) where
  abbrev at_step : ℕ → ℕ × ℕ
  at_step k = point a b k (steps_between a b - k)

  pub length-segment : length (segment a b) ≡ steps_between a b + 1
  length-segment = length-map-range_with_len at_step 0 (steps_between a b + 1)

  get_or-segment : (k : ℕ) (d : ℕ × ℕ) → k ≤ steps_between a b → get_or (segment a b) k d ≡ point a b k (steps_between a b - k)
  get_or-segment k d le = get_or-map-range_with_len at_step 0 (steps_between a b + 1) k k d (omega arith) (omega arith)

  pub get-segment : (k : ℕ) → k ≤ steps_between a b → slice_get (segment a b) k ≡ Some (point a b k (steps_between a b - k))
  get-segment k le =
      slice_get-get_or (segment a b) k a (omega (arith, length-segment)) ∙ ap Some (get_or-segment k a le)

  pub position_is : (k : ℕ) (p : ℕ × ℕ) → slice_get (segment a b) k ≡ Some p → (k ≤ steps_between a b) × (point a b k (steps_between a b - k) ≡ p)
  position_is k p e =
      let within : k ≤ steps_between a b = omega (arith, slice_get_within (segment a b) k p e, length-segment) in
      let here = get-segment k within in
      (within, cc)

  near_at : (k : ℕ) (p : ℕ × ℕ) → slice_get (segment a b) k ≡ Some p → IsNear a.0 b.0 k (steps_between a b - k) p.0 × IsNear a.1 b.1 k (steps_between a b - k) p.1
  near_at k p e =
      let left = steps_between a b - k in
      let row = reached a.0 b.0 k left in
      let col = reached a.1 b.1 k left in
      let here = (position_is k p e).1 in (
        subst (λ (z : ℕ × ℕ). IsNear a.0 b.0 k left z.0) here (near_of a.0 b.0 k left _ _ row.1),
        subst (λ (z : ℕ × ℕ). IsNear a.1 b.1 k left z.1) here (near_of a.1 b.1 k left _ _ col.1),
      )

  row_at : (k m : ℕ) (p : ℕ × ℕ) → slice_get (segment a b) k ≡ Some p → a.0 < m → b.0 < m → p.0 < m
  row_at k m p e la lb =
      let row = reached a.0 b.0 k (steps_between a b - k) in
      subst (λ (z : ℕ × ℕ). z.0 < m) (position_is k p e).1 (below_of a.0 b.0 k _ _ _ row.1 m la lb)

  col_at : (k n : ℕ) (p : ℕ × ℕ) → slice_get (segment a b) k ≡ Some p → a.1 < n → b.1 < n → p.1 < n
  col_at k n p e la lb =
      let col = reached a.1 b.1 k (steps_between a b - k) in
      subst (λ (z : ℕ × ℕ). z.1 < n) (position_is k p e).1 (below_of a.1 b.1 k _ _ _ col.1 n la lb)

  step_at : (k : ℕ) (p q : ℕ × ℕ) → slice_get (segment a b) k ≡ Some p → slice_get (segment a b) (k + 1) ≡ Some q → steps_between p q ≡ 1
  step_at k p q e f =
      let here = position_is k p e in
      let there = position_is (k + 1) q f in
      let n = steps_between a b in
      let j = n - (k + 1) in
      let left : suc j ≡ n - k = omega (arith, there.0) in
      let one : suc k ≡ k + 1 = omega arith in
      let first : point a b k (suc j) ≡ p = ap (point a b k) left ∙ here.1 in
      let second : point a b (suc k) j ≡ q = ap (λ i. point a b i j) one ∙ there.1 in
      ap (λ z. steps_between z q) (sym first)
      ∙ (ap (λ z. steps_between (point a b k (suc j)) z) (sym second)
      ∙ step_of a b k j (omega (arith, there.0)))

  pub last_at : slice_get (segment a b) (steps_between a b) ≡ Some b
  last_at =
      let n = steps_between a b in
      let none : n - n ≡ 0 = omega arith in
      let row = nearest_end a.0 b.0 n (λ e. omega arith) in
      let col = nearest_end a.1 b.1 n (λ e. omega arith) in
      let there : point a b n 0 ≡ b = ap (λ r. (r, nearest a.1 b.1 n 0)) row ∙ ap (λ c. (b.0, c)) col in
      get-segment n (omega arith) ∙ ap Some (ap (point a b n) none ∙ there)

  pub point_back : (i j : ℕ) → steps_between a b ≡ i + j → point b a i j ≡ point a b j i
  point_back i j total =
      let row = nearest_back a.0 b.0 j i (λ e. omega arith) in
      let col = nearest_back a.1 b.1 j i (λ e. omega arith) in
      ap (λ r. (r, nearest b.1 a.1 i j)) row ∙ ap (λ c. (nearest a.0 b.0 j i, c)) col

pub same_steps : (a b : ℕ × ℕ) → steps_between b a ≡ steps_between a b
same_steps a b = omega arith

pub segment_back : (a b : ℕ × ℕ) → segment b a ≡ reverse (segment a b)
segment_back a b =
    ext_get_or a (segment b a) (reverse (segment a b)) (omega (arith, length-segment a b, length-segment b a, same_steps a b, length-reverse (segment a b))) (λ k lt.
    let n = steps_between a b in
    let in_back : k ≤ steps_between b a = omega (arith, length-segment b a) in
    let in_segment : k < length (segment a b) = omega (arith, length-segment a b, same_steps a b) in
    let mirrored : length (segment a b) - 1 - k ≡ n - k = omega (arith, length-segment a b) in
    let left : steps_between b a - k ≡ n - k = omega (arith, same_steps a b) in
    let other : n - (n - k) ≡ k = omega (arith, same_steps a b) in
    get_or-segment b a k a in_back
    ∙ (ap (point b a k) left
    ∙ (point_back a b k (n - k) (omega (arith, same_steps a b))
    ∙ (ap (point a b (n - k)) (sym other)
    ∙ (sym (get_or-segment a b (n - k) a (omega arith))
    ∙ (ap (λ i. get_or (segment a b) i a) (sym mirrored)
    ∙ sym (get_or-reverse (segment a b) k a in_segment)))))))

pub IsStraight-segment : (a b : ℕ × ℕ) → IsStraight a b (segment a b)
IsStraight-segment a b = record {
  count = length-segment a b;
  first = get-segment a b 0 (omega arith);
  last = last_at a b;
  each_step = step_at a b;
  near_row = λ k p e. (near_at a b k p e).0;
  near_col = λ k p e. (near_at a b k p e).1;
  row_in = row_at a b;
  col_in = col_at a b;
  back = segment_back a b;
}
