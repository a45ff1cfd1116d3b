-- Lines and groups that are woven half by half.
use Rattle.std.proofs.Common.{◌≡◌, ℕ, ◌+◌, ◌-◌, ◌*◌, ◌/◌, ◌<◌, ◌≤◌, ◌++◌, List, length, take, drop, refl, sym, ◌∙◌, ap, arith, ◌⊎◌, ⊎_elim, length-append, slice_get, take-append-drop, length-take}
use Rattle.grid_base.proofs.Common.{mul-add-lt, cases_lt, BlocksExchanged, Woven, TakenOut}
use Rattle.grid_base.proofs.StorageLemmas.{get_append_left, get_append_right}

-- the place b of line a of n lines of w cells
pub place_below : (a w b n : ℕ) → a < n → b < w → a * w + b < n * w
place_below a w b n la lb = omega (arith, mul-add-lt a w b n la lb)

pub exchanged_back : {T : Type 0} (a m n : ℕ) (old new : List T) → BlocksExchanged a m n old new → BlocksExchanged a n m new old
exchanged_back a m n old new h =
    record {
      length_stays = sym h.length_stays;
      before = λ x lt. sym (h.before x lt);
      second = λ x lt. sym (h.first x lt);
      first = λ x lt. sym (h.second x lt);
      behind = λ x le. sym (h.behind x (omega arith));
    }

-- the same look-up at indices that are equal
pub at_equal : {T : Type 0} (xs ys : List T) (a b c d : ℕ) → a ≡ b → c ≡ d → slice_get xs b ≡ slice_get ys d → slice_get xs a ≡ slice_get ys c
at_equal xs ys a b c d e f h = ap (slice_get xs) e ∙ (h ∙ sym (ap (slice_get ys) f))

module _ {T : Type 0} (h r q i k : ℕ) (short mid long fs fl bs bl : List T) (le : i ≤ q) (wide : length fs ≡ h * (q + k)) (cut : mid ≡ fs ++ bs) (concat_rows : long ≡ fl ++ bl) (moved : BlocksExchanged (h * q) (r * q) (h * k) short mid) (front : Woven h q i k fs fl) (back : Woven r q i k bs bl) where
  long_front : (x : ℕ) → x < h * (q + k) → slice_get long x ≡ slice_get fl x
  long_front x lt = ap (λ xs. slice_get xs x) concat_rows ∙ get_append_left fl bl x (omega (arith, front.lengths))

  long_back : (x y : ℕ) → h * (q + k) + y ≡ x → slice_get long x ≡ slice_get bl y
  long_back x y e = ap (λ xs. slice_get xs x) concat_rows ∙ get_append_right fl bl x y (omega (arith, front.lengths))

  mid_front : (x : ℕ) → x < h * (q + k) → slice_get fs x ≡ slice_get mid x
  mid_front x lt = sym (ap (λ xs. slice_get xs x) cut ∙ get_append_left fs bs x (omega arith))

  mid_back : (x y : ℕ) → h * (q + k) + y ≡ x → slice_get bs y ≡ slice_get mid x
  mid_back x y e = sym (ap (λ xs. slice_get xs x) cut ∙ get_append_right fs bs x y (omega arith))

  before_low : (l j : ℕ) → l < h → j < q → j < i → slice_get long (l * (q + k) + j) ≡ slice_get short (l * q + j)
  before_low l j lh lq li =
      long_front _ (place_below l (q + k) j h lh (omega arith))
      ∙ (front.lines.before l j lh lq li
      ∙ (mid_front _ (omega (arith, place_below l q j h lh lq)) ∙ moved.before _ (place_below l q j h lh lq)))

  after_low : (l j : ℕ) → l < h → j < q → i ≤ j → slice_get long (l * (q + k) + (k + j)) ≡ slice_get short (l * q + j)
  after_low l j lh lq li =
      long_front _ (place_below l (q + k) (k + j) h lh (omega arith))
      ∙ (front.lines.after l j lh lq li
      ∙ (mid_front _ (omega (arith, place_below l q j h lh lq)) ∙ moved.before _ (place_below l q j h lh lq)))

  groups_low : (l j : ℕ) → l < h → j < k → slice_get long (l * (q + k) + (i + j)) ≡ slice_get short ((h + r) * q + (l * k + j))
  groups_low l j lh lk =
      long_front _ (place_below l (q + k) (i + j) h lh (omega arith))
      ∙ (front.groups l j lh lk
      ∙ (mid_front _ (omega (arith, place_below l k j h lh lk))
      ∙ (moved.second (l * k + j) (place_below l k j h lh lk) ∙ ap (slice_get short) (omega arith))))

  from_second : (m j : ℕ) → m < r → j < q → slice_get bs (m * q + j) ≡ slice_get short ((h + m) * q + j)
  from_second m j lm lq =
      mid_back (h * q + (h * k + (m * q + j))) (m * q + j) (omega arith)
      ∙ (moved.first (m * q + j) (place_below m q j r lm lq) ∙ ap (slice_get short) (omega arith))

  before_high : (m j : ℕ) → m < r → j < q → j < i → slice_get long ((h + m) * (q + k) + j) ≡ slice_get short ((h + m) * q + j)
  before_high m j lm lq li =
      long_back _ (m * (q + k) + j) (omega arith) ∙ (back.lines.before m j lm lq li ∙ from_second m j lm lq)

  after_high : (m j : ℕ) → m < r → j < q → i ≤ j → slice_get long ((h + m) * (q + k) + (k + j)) ≡ slice_get short ((h + m) * q + j)
  after_high m j lm lq li =
      long_back _ (m * (q + k) + (k + j)) (omega arith) ∙ (back.lines.after m j lm lq li ∙ from_second m j lm lq)

  groups_high : (m j : ℕ) → m < r → j < k → slice_get long ((h + m) * (q + k) + (i + j)) ≡ slice_get short ((h + r) * q + ((h + m) * k + j))
  groups_high m j lm lk =
      long_back _ (m * (q + k) + (i + j)) (omega arith)
      ∙ (back.groups m j lm lk
      ∙ (mid_back ((h + r) * q + ((h + m) * k + j)) (r * q + (m * k + j)) (omega arith) ∙ moved.behind _ (omega arith)))

  pub woven_halves : Woven (h + r) q i k short long
  woven_halves =
      record {
        lengths = ap length concat_rows ∙ (length-append fl bl ∙ (omega (arith, front.lengths, back.lengths, ap length cut, length-append fs bs, moved.length_stays)));
        lines = record {
          before = λ l j a b c.
              ⊎_elim (λ low. before_low l j low b c)
              (λ high.
              let e : l ≡ h + (l - h) = omega arith in
              at_equal long short _ _ _ _ (ap (λ x. x * (q + k) + j) e) (ap (λ x. x * q + j) e) (before_high (l - h) j (omega arith) b c)) (cases_lt l h);
          after = λ l j a b c.
              ⊎_elim (λ low. after_low l j low b c)
              (λ high.
              let e : l ≡ h + (l - h) = omega arith in
              at_equal long short _ _ _ _ (ap (λ x. x * (q + k) + (k + j)) e) (ap (λ x. x * q + j) e) (after_high (l - h) j (omega arith) b c)) (cases_lt l h);
        };
        groups = λ l j a b.
            ⊎_elim (λ low. groups_low l j low b)
            (λ high.
            let e : l ≡ h + (l - h) = omega arith in
            at_equal long short _ _ _ _ (ap (λ x. x * (q + k) + (i + j)) e) (ap (λ x. (h + r) * q + (x * k + j)) e) (groups_high (l - h) j (omega arith) b)) (cases_lt l h);
      }

-- the same, in the forms of the goals
pub woven_by_halves : {T : Type 0} (p h r q i k : ℕ) (short mid long fs fl bs bl : List T) → h + r ≡ p → i ≤ q → length fs ≡ h * (q + k) → mid ≡ fs ++ bs → long ≡ fl ++ bl → BlocksExchanged (h * q) (r * q) (h * k) short mid → Woven h q i k fs fl → Woven r q i k bs bl → Woven p q i k short long
woven_by_halves p h r q i k short mid long fs fl bs bl e le wide cut concat_rows moved front back =
    rw (← e) (woven_halves h r q i k short mid long fs fl bs bl le wide cut concat_rows moved front back)

-- the sizes of the halves
pub whole_of_halves : (p q : ℕ) → p / 2 * q + (p - p / 2) * q ≡ p * q
whole_of_halves p q =
    let e : p / 2 + (p - p / 2) ≡ p = omega arith in
    omega (arith, ap (λ x. x * q) e)

-- lines without cells, and one line with its group at its end
pub woven_in_place : {T : Type 0} (p q i k : ℕ) (xs : List T) → i ≤ q → (q ≡ 0) ⊎ ((p ≤ 1) × (i ≡ q)) → Woven p q i k xs xs
woven_in_place p q i k xs le stand =
    ⊎_elim
    (λ none. record {
      lengths = refl;
      lines = record { before = λ l j a b c. absurd (omega arith); after = λ l j a b c. absurd (omega arith) };
      groups = λ l j a b. ap (slice_get xs) (omega (arith, ap (λ v. l * v) none, ap (λ v. p * v) none));
    })
    (λ s. record {
      lengths = refl;
      lines = record {
        before = λ l j a b c. let first : l ≡ 0 = omega (arith, s.0) in ap (slice_get xs) (omega (arith, ap (λ v. v * k) first));
        after = λ l j a b c. absurd (omega (arith, s.1));
      };
      groups = λ l j a b.
          let first : l ≡ 0 = omega (arith, s.0) in
          let one : p ≡ 1 = omega (arith, s.0) in
          ap (slice_get xs) (omega (arith, s.1, ap (λ v. v * q) one, ap (λ v. v * (q + k)) first, ap (λ v. v * k) first));
    }) stand

-- groups that are after their lines are the rest
pub taken_in_place : {T : Type 0} (p q i k : ℕ) (xs short taken : List T) → i ≤ q → (q ≡ 0) ⊎ ((p ≤ 1) × (i ≡ q)) → length xs ≡ p * (q + k) → short ≡ take (p * q) xs → taken ≡ drop (p * q) xs → TakenOut p q i k short taken xs
taken_in_place p q i k xs short taken le stand len front back =
    let whole : short ++ taken ≡ xs = ap (λ v. v ++ taken) front ∙ (ap (λ v. take (p * q) xs ++ v) back ∙ take-append-drop (p * q) xs) in
    record {
      lengths = ap length front ∙ omega (arith, len, length-take (p * q) xs);
      woven = rw whole (woven_in_place p q i k xs le stand);
    }
