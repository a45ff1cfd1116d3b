-- Where the cells of lines are once each line has room for a group.
use Rattle.std.proofs.Common.{◌≡◌, ◌≢◌, ℕ, ◌+◌, ◌-◌, ◌*◌, ◌/◌, ◌%◌, ◌<◌, ◌≤◌, List, length, min, refl, sym, ◌∙◌, ap, arith, ⊎_elim, slice_get, div-add-mod', mul-le-mul_right}
use Rattle.grid_base.proofs.Common.{div-mul-add, mod_below, same_from_place, le-div, cases_lt, cases_eq, PartReversed, Widened, Opened}
use Rattle.grid_base.proofs.WeaveLemmas.{place_below}
use Rattle.grid_base.proofs.ShiftLemmas.{MovedForward, MovedBack}

-- the place of cell x once each line of q cells has a group of k cells before its place i
pub spread : (q i k x : ℕ) → ℕ
spread q i k x = x + (x + (q - i)) / q * k

module _ (q i k : ℕ) (le : i ≤ q) where
  -- after g groups
  pub spread-behind : (g r x : ℕ) → x + (q - i) ≡ g * q + r → r < q → spread q i k x ≡ x + g * k
  unfolding spread
  spread-behind g r x e lt =
      let d : (x + (q - i)) / q ≡ g = ap (λ y. y / q) e ∙ div-mul-add g q r lt in
      ap (λ y. x + y * k) d

  pub spread-before : (l j : ℕ) → j < q → j < i → spread q i k (l * q + j) ≡ l * (q + k) + j
  spread-before l j lq li = spread-behind l (j + (q - i)) (l * q + j) (omega arith) (omega arith) ∙ omega arith

  pub spread-after : (l j : ℕ) → j < q → i ≤ j → spread q i k (l * q + j) ≡ l * (q + k) + (k + j)
  spread-after l j lq li = spread-behind (l + 1) (j - i) (l * q + j) (omega arith) (omega arith) ∙ omega arith

  groups_at : (x : ℕ) → 0 < q → x + (q - i) ≡ (x + (q - i)) / q * q + (x + (q - i)) % q
  groups_at x some = sym (div-add-mod' (x + (q - i)) q)

  pub spread_rises : (x y : ℕ) → 0 < q → x < y → spread q i k x < spread q i k y
  unfolding spread
  spread_rises x y some lt =
      let up : (x + (q - i)) / q ≤ (y + (q - i)) / q = le-div ((x + (q - i)) / q) (y + (q - i)) q some (omega (arith, groups_at x some)) in
      omega (arith, mul-le-mul_right k up)

  -- the place of a group's cell is no other's
  pub spread_misses : (l j x : ℕ) → 0 < q → j < k → spread q i k x ≢ l * (q + k) + (i + j)
  spread_misses l j x some lj e =
      let cut : x ≡ x / q * q + x % q = sym (div-add-mod' x q) in
      let low : x % q < q = mod_below x q some in
      ⊎_elim (λ before.
      let there : spread q i k x ≡ x / q * (q + k) + x % q = ap (spread q i k) cut ∙ spread-before (x / q) (x % q) low before in
      let s = same_from_place (x / q) (x % q) l (i + j) (q + k) (omega arith) (omega arith) (sym there ∙ e) in
      omega (arith, s.1))
      (λ after.
      let there : spread q i k x ≡ x / q * (q + k) + (k + x % q) = ap (spread q i k) cut ∙ spread-after (x / q) (x % q) low after in
      let s = same_from_place (x / q) (k + x % q) l (i + j) (q + k) (omega arith) (omega arith) (sym there ∙ e) in
      omega (arith, s.1)) (cases_lt (x % q) i)

-- the cells before the first group stay
pub spread_start : (q i k y : ℕ) → i ≤ q → y < i → spread q i k y ≡ y
spread_start q i k y le lt = sym (ap (spread q i k) (omega arith)) ∙ (spread-before q i k le 0 y (omega arith) lt ∙ omega arith)

-- cells before and after place i of each line, from where each cell is
pub widened_by_spread : {T : Type 0} (p q i k : ℕ) (short long : List T) → i ≤ q → ((y : ℕ) → y < p * q → slice_get long (spread q i k y) ≡ slice_get short y) → Widened p q i k short long
widened_by_spread p q i k short long le at =
    record {
      before = λ l j a b c. ap (slice_get long) (sym (spread-before q i k le l j b c)) ∙ at (l * q + j) (place_below l q j p a b);
      after = λ l j a b c. ap (slice_get long) (sym (spread-after q i k le l j b c)) ∙ at (l * q + j) (place_below l q j p a b);
    }

-- the cells from x on below n are at their new places, the others from x on are some of those that were after
pub record Opening {T : Type 0} (f : ℕ → ℕ) (n x : ℕ) (old now : List T) : Type 0 where
  pub length_stays : length now ≡ length old
  pub placed : (y : ℕ) → x ≤ y → y < n → slice_get now (f y) ≡ slice_get old y
  pub kept : (y : ℕ) → y < x → slice_get now y ≡ slice_get old y
  pub fresh : (z : ℕ) → x ≤ z → z < length old → ((y : ℕ) → x ≤ y → y < n → f y ≢ z) → (w : ℕ) × (n ≤ w) × (w < length old) × (slice_get now z ≡ slice_get old w)

pub opening_none : {T : Type 0} (f : ℕ → ℕ) (n x : ℕ) (xs : List T) → x ≡ n → Opening f n x xs xs
opening_none f n x xs e =
    record {
      length_stays = refl;
      placed = λ y a b. absurd (omega arith);
      kept = λ y a. refl;
      fresh = λ z a b miss. (z, omega arith, b, refl);
    }

-- a product above 0
pub wide_lines : (p q : ℕ) → 0 < p * q → 0 < q
wide_lines p q some = ⊎_elim (λ none. absurd (omega (arith, ap (λ y. p * y) none))) (λ is. omega arith) (cases_eq q 0)

-- a number of lines, one less and one
pub times_less : (g q : ℕ) → 0 < g → g * q ≡ (g - 1) * q + q
times_less g q some = let e : g ≡ g - 1 + 1 = omega arith in ap (λ v. v * q) e ∙ omega arith

module _ (p q i k x g : ℕ) (le : i ≤ q) (e : x + (q - i) ≡ g * q) where
  -- the run of cells after g groups, from x on
  pub spread_run : (y : ℕ) → x ≤ y → y < x + q → spread q i k y ≡ y + g * k
  spread_run y lo hi = spread-behind q i k le g (y - x) y (omega arith) (omega arith)

  -- the cells after that run
  pub spread_later : (z y : ℕ) → 0 < q → z ≡ x + q → z ≤ y → z + g * k ≤ spread q i k y
  spread_later z y some ez lo =
      let first : spread q i k z ≡ z + (g + 1) * k = spread-behind q i k le (g + 1) 0 z (omega arith) some in
      ⊎_elim (λ s. let same : spread q i k y ≡ spread q i k z = ap (spread q i k) s in omega arith)
      (λ ne. let high = spread_rises q i k le z y some (omega arith) in omega arith) (cases_eq y z)

pub opening_run : {T : Type 0} (p q i k g z m x : ℕ) (old now new : List T) → i ≤ q → 0 < k → length old ≡ p * (q + k) → g ≤ p → z + (q - i) ≡ g * q → z ≤ p * q → x ≡ min (z + q) (p * q) → m ≡ x - z → Opening (spread q i k) (p * q) x old now → MovedBack z (g * k) m now new → Opening (spread q i k) (p * q) z old new
opening_run p q i k g z m x old now new le some size lg e lz ex em h mv =
    let inside : x + g * k ≤ length old = omega (arith, mul-le-mul_right k lg) in
    let later : (y : ℕ) → x ≤ y → y < p * q → x + g * k ≤ spread q i k y =
    λ (y : ℕ) (lo : x ≤ y) (hi : y < p * q). spread_later p q i k z g le e x y (wide_lines p q (omega arith)) (omega arith) lo in
    record {
      length_stays = mv.length_stays ∙ h.length_stays;
      placed = λ y lo hi.
          ⊎_elim (λ low.
          ap (slice_get new) (spread_run p q i k z g le e y lo (omega arith)) ∙ (mv.placed y lo (omega arith) ∙ h.kept y low))
          (λ high. let far = later y high hi in mv.behind (spread q i k y) (omega arith) ∙ h.placed y high hi) (cases_lt y x);
      kept = λ y lt. mv.before y lt ∙ h.kept y (omega arith);
      fresh = λ w lo hi miss.
          ⊎_elim (λ low.
          let v = mv.gap w lo low in
          let u = h.fresh v.0 (omega (arith, v.1)) (omega (arith, v.2)) (λ y c d. let far = later y c d in λ t. omega (arith, v.2)) in
          (u.0, u.1, u.2, v.3 ∙ u.3))
          (λ high.
          ⊎_elim (λ low. absurd (miss (w - g * k) (omega arith) (omega arith) (spread_run p q i k z g le e (w - g * k) (omega arith) (omega arith) ∙ omega arith)))
          (λ far.
          let u = h.fresh w (omega arith) hi (λ y c d. miss y (omega arith) d) in
          (u.0, u.1, u.2, mv.behind w (omega arith) ∙ u.3)) (cases_lt w (x + g * k))) (cases_lt w (z + g * k));
    }

pub opening_end : {T : Type 0} (p q i k x : ℕ) (old now : List T) → 0 < p → 0 < q → i ≤ q → length old ≡ p * (q + k) → Opening (spread q i k) (p * q) x old now → x ≡ i → Opened p q i k old now
opening_end p q i k x old now lines wide le size last e =
    let h = rw e at last in
    let reach : q ≤ p * q = omega (arith, mul-le-mul_right q lines) in
    let at : (y : ℕ) → y < p * q → slice_get now (spread q i k y) ≡ slice_get old y =
    λ (y : ℕ) (lt : y < p * q). ⊎_elim (λ low. ap (slice_get now) (spread_start q i k y le low) ∙ h.kept y low) (λ high. h.placed y high lt) (cases_lt y i) in
    record {
      lengths = h.length_stays;
      lines = widened_by_spread p q i k old now le at;
      groups = λ l j a b.
          h.fresh (l * (q + k) + (i + j)) (omega arith) (omega (arith, place_below l (q + k) (i + j) p a (omega arith)))
          (λ y c d. spread_misses q i k le l j y wide b);
    }

-- the first line ends within the lines
pub first_line : (p q : ℕ) → 0 < p → q ≤ p * q
first_line p q some = omega (arith, mul-le-mul_right q some)

-- the cells before x are at their places in the closed lines, the others have not moved
pub record Closing {T : Type 0} (f : ℕ → ℕ) (n x : ℕ) (old now : List T) : Type 0 where
  pub length_stays : length now ≡ length old
  pub placed : (y : ℕ) → y < x → slice_get now y ≡ slice_get old (f y)
  pub rest : (y : ℕ) → x ≤ y → y < n → slice_get now (f y) ≡ slice_get old (f y)

pub closing_none : {T : Type 0} (p q i k : ℕ) (xs : List T) → i ≤ q → Closing (spread q i k) (p * q) i xs xs
closing_none p q i k xs le =
    record {
      length_stays = refl;
      placed = λ y lt. sym (ap (slice_get xs) (spread_start q i k y le lt));
      rest = λ y a b. refl;
    }

pub closing_run : {T : Type 0} (p q i k g x m z : ℕ) (old now new : List T) → i ≤ q → x + (q - i) ≡ g * q → x ≤ p * q → m ≡ min q (p * q - x) → Closing (spread q i k) (p * q) x old now → MovedForward x (g * k) m now new → z ≡ x + m → Closing (spread q i k) (p * q) z old new
closing_run p q i k g x m z old now new le e lx em h mv ez =
    record {
      length_stays = mv.length_stays ∙ h.length_stays;
      placed = λ y hi.
          ⊎_elim (λ low. mv.before y low ∙ h.placed y low)
          (λ high.
          let same = spread_run p q i k x g le e y high (omega arith) in
          mv.placed y high (omega arith) ∙ (sym (ap (slice_get now) same) ∙ h.rest y high (omega arith))) (cases_lt y x);
      rest = λ y lo hi.
          let far = spread_later p q i k x g le e z y (wide_lines p q (omega arith)) (omega arith) lo in
          mv.behind (spread q i k y) (omega arith) ∙ h.rest y (omega arith) hi;
    }

pub closing_end : {T : Type 0} (p q i k x : ℕ) (old now : List T) → i ≤ q → p * q ≤ x → Closing (spread q i k) (p * q) x old now → Widened p q i k now old
closing_end p q i k x old now le end h =
    widened_by_spread p q i k now old le (λ y lt. sym (h.placed y (omega arith)))

-- a single line, whose group is reversed with the cells after it, which are then reversed alone
pub closed_by_reversals : {T : Type 0} (p q i k : ℕ) (old one new : List T) → p ≡ 1 → i ≤ q → PartReversed i (k + (q - i)) old one → PartReversed i (q - i) one new → Widened p q i k new old
closed_by_reversals p q i k old one new single le h again =
    record {
      before = λ l j lt lq li. ap (slice_get old) (first l lt (q + k) j) ∙ sym (ap (slice_get new) (first l lt q j) ∙ (again.others j (λ lo. absurd (omega arith)) ∙ h.others j (λ lo. absurd (omega arith))));
      after = λ l j lt lq li.
          let there : i + (j - i) ≡ j = omega arith in
          let behind : i + (k + (q - i) - 1 - (q - i - 1 - (j - i))) ≡ k + j = omega arith in
          ap (slice_get old) (first l lt (q + k) (k + j) ∙ sym behind)
          ∙ sym (ap (slice_get new) (first l lt q j ∙ sym there)
          ∙ (again.moved (j - i) (omega arith) ∙ h.moved (q - i - 1 - (j - i)) (omega arith)));
    }
  where
    first : (l : ℕ) → l < p → (w j : ℕ) → l * w + j ≡ j
    first l lt w j = let none : l ≡ 0 = omega arith in ap (λ x. x * w + j) none ∙ omega arith
