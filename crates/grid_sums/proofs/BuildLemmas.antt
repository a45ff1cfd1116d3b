-- Sums that are appended, number by number and row by row.
use Rattle.std.proofs.Common.{◌≡◌, ℕ, ◌+◌, ◌*◌, ◌<◌, ◌^◌, List, [], ◌∷◌, ◌++◌, Option, None, Some, IsSomeAnd, map, refl, sym, subst, ◌∙◌, ap, arith, length, get_or, slice_get, ⊎_elim, length-append, Bor}
use lib.IntN.{ℤ, pos, negsuc, ◌+ℤ◌}
use lib.Signed.{mag}
use Rattle.std.specs.Option.{option_map}
use Rattle.grid_base.proofs.Common.{cell, row, row_count, col_count, IsTable, cases_lt, get_or_append_left, get_or-append_seam, get_or-map, slice_get-map, length-map}
use Rattle.grid_base.proofs.TableLemmas.{IsSize-table, same_tables, cell-tabulate, width-tabulate}
use Rattle.std.proofs.lemmas.Int.{ints}
use Rattle.grid_sums.proofs.SumLemmas.{corner_within, numbers_full, numbers_rows, numbers_cols}
use Rattle.grid_sums.specs.Numbers.{AreNumbers, ReturnsFor}
use Rattle.grid_sums.specs.Corners.{at, growth, numbers_of, IsWithin, AreSmall, HoldsSums, Returns, RowSummed, RowsSummed}

also_by : {A : Type 0} (R S : A → ℤ → Type 0) (x : Option A) (o : Option ℤ) → ((y : A) (z : ℤ) → R y z → S y z) → IsSomeAnd o (λ z. (y : A) × (x ≡ Some y) × R y z) → IsSomeAnd o (λ z. (y : A) × (x ≡ Some y) × S y z)
also_by R S x None so p = absurd p
also_by R S x (Some z) so p = (p.0, p.1, so p.0 z p.2)

-- numbers by one relation are so by another that follows from it
pub weaker : {A : Type 0} (R S : A → ℤ → Type 0) (t : List (List A)) (u : List (List ℤ)) → ((x : A) (z : ℤ) → R x z → S x z) → AreNumbers R t u → AreNumbers S t u
weaker {A} R S t u so h = record {
  rows = h.rows;
  cols = h.cols;
  each = λ r c within. also_by R S (cell t r c) (cell u r c) so (h.each r c within);
  mapped = λ k says. h.mapped k (λ x z p. says x z (so x z p));
}

pub within_one : (z : ℤ) → mag z < 2 ^ 63 → IsWithin z 1
within_one (pos n) h = record { low = omega (arith, ints); high = omega (arith, ints) }
within_one (negsuc n) h = record { low = omega (arith, ints); high = omega (arith, ints) }

before : (sums : List ℤ) (y : ℤ) (k : ℕ) → k < length sums → get_or (sums ++ y ∷ []) k (pos 0) ≡ get_or sums k (pos 0)
before sums y k lt = get_or_append_left sums (y ∷ []) (pos 0) k lt

last_of : (sums : List ℤ) (y : ℤ) (k : ℕ) → k ≡ length sums → get_or (sums ++ y ∷ []) k (pos 0) ≡ y
last_of sums y k e = ap (λ j. get_or (sums ++ y ∷ []) j (pos 0)) e ∙ get_or-append_seam sums y [] (pos 0)

length_more : (sums : List ℤ) (y : ℤ) → length (sums ++ y ∷ []) ≡ length sums + 1
length_more sums y = length-append sums (y ∷ [])

small_more : (sums : List ℤ) (y : ℤ) → AreSmall sums → IsWithin y (length sums) → AreSmall (sums ++ y ∷ [])
small_more sums y old new = record {
  small = λ k lt. ⊎_elim (λ l. subst (λ z. IsWithin z k) (sym (before sums y k l)) (old.small k l))
      (λ ge.
      let e : k ≡ length sums = omega (arith, length_more sums y) in
      subst (λ z. IsWithin z k) (sym (last_of sums y k e)) (subst (λ j. IsWithin y j) (sym e) new))
      (cases_lt k (length sums));
}

-- one more 0 after zeros
pub zeros_more : (sums : List ℤ) → ((k : ℕ) → k < length sums → get_or sums k (pos 0) ≡ pos 0) → (k : ℕ) → k < length (sums ++ pos 0 ∷ []) → get_or (sums ++ pos 0 ∷ []) k (pos 0) ≡ pos 0
zeros_more sums zero k lt =
    ⊎_elim (λ l. before sums (pos 0) k l ∙ zero k l) (λ ge. last_of sums (pos 0) k (omega (arith, length_more sums (pos 0)))) (cases_lt k (length sums))

growth_same : (w : ℕ) (xs ys : List ℤ) (len r c : ℕ) → ((k : ℕ) → k < len → get_or xs k (pos 0) ≡ get_or ys k (pos 0)) → (r + 1) * w + (c + 1) < len → growth w xs r c ≡ growth w ys r c
growth_same w xs ys len r c same lt =
    let a = same ((r + 1) * w + (c + 1)) lt in
    let b = same (r * w + (c + 1)) (omega arith) in
    let d = same ((r + 1) * w + c) (omega arith) in
    let e = same (r * w + c) (omega arith) in
    cc

module _ {F A : Type 0} (returns : F → Bor A → ℤ → Type 0) (f : F) (t : List (List A)) where
  -- no rows are summed where all sums are 0
  pub rows_none : (sums : List ℤ) → length sums ≡ col_count t + 1 → ((k : ℕ) → k < length sums → get_or sums k (pos 0) ≡ pos 0) → RowsSummed returns f 0 t sums
  rows_none sums count zero = record {
    count = omega arith;
    first = λ r le. zero (r * (col_count t + 1) + 0) (corner_within 0 (col_count t) r 0 (length sums) (omega arith) le (omega arith));
    small = record { small = λ k lt. subst (λ z. IsWithin z k) (sym (zero k lt)) (record { low = omega (arith, ints); high = omega (arith, ints) }) };
    grown = λ r c lr lc. absurd (omega arith);
  }

  pub row_start : (r : ℕ) (old : List ℤ) → RowsSummed returns f r t old → RowSummed returns f r t old 0 (pos 0) (old ++ pos 0 ∷ [])
  row_start r old h =
      let w = col_count t + 1 in
      let above = before old (pos 0) (r * w + 0) (corner_within r (col_count t) r 0 (length old) h.count (omega arith) (omega arith)) ∙ h.first r (omega arith) in
      let here = last_of old (pos 0) ((r + 1) * w + 0) (omega (arith, h.count)) in
      record {
        count = omega (arith, length_more old (pos 0));
        kept = λ k lt. before old (pos 0) k lt;
        first = here;
        small = small_more old (pos 0) h.small (record { low = omega (arith, ints); high = omega (arith, ints) });
        within = record { low = omega (arith, ints); high = omega (arith, ints) };
        last = here ∙ sym (ap (λ z. z +ℤ pos 0) above);
        grown = λ c lt. absurd (omega arith);
      }

  pub row_more : (r n : ℕ) (old sums : List ℤ) (z x z' y : ℤ) → length old ≡ (r + 1) * (col_count t + 1) → n < col_count t → RowSummed returns f r t old n z sums → Returns returns f (cell t r n) x → z' ≡ z +ℤ x → y ≡ at (col_count t + 1) sums r (n + 1) +ℤ z' → RowSummed returns f r t old (n + 1) z' (sums ++ y ∷ [])
  row_more r n old sums z x z' y rows lt h found sum value =
      let w = col_count t + 1 in
      let all : sums ++ y ∷ [] ≡ sums ++ y ∷ [] = refl in
      let place : (r + 1) * w + (n + 1) ≡ length sums = omega (arith, h.count) in
      let up_in : r * w + (n + 1) < length sums = omega (arith, h.count) in
      let up = before sums y (r * w + (n + 1)) up_in in
      let here = last_of sums y ((r + 1) * w + (n + 1)) place in
      let left = before sums y ((r + 1) * w + n) (omega (arith, h.count)) in
      let corner = before sums y (r * w + n) (omega (arith, h.count)) in
      let small = h.small.small (r * w + (n + 1)) up_in in
      let within : IsWithin z' (n + 1) = record { low = omega (arith, ints, sum, h.within.low, found.within.low); high = omega (arith, ints, sum, h.within.high, found.within.high) } in
      let last : at w (sums ++ y ∷ []) (r + 1) (n + 1) ≡ at w (sums ++ y ∷ []) r (n + 1) +ℤ z' = here ∙ (value ∙ sym (ap (λ v. v +ℤ z') up)) in
      let new : growth w (sums ++ y ∷ []) r n ≡ x = omega (arith, ints, last, left, corner, h.last, sum) in
      record {
        count = omega (arith, h.count, length_more sums y);
        kept = λ k l. before sums y k (omega (arith, h.count)) ∙ h.kept k l;
        first = before sums y ((r + 1) * w + 0) (omega (arith, h.count)) ∙ h.first;
        small = small_more sums y h.small (record { low = omega (arith, ints, value, small.low, within.low, place); high = omega (arith, ints, value, small.high, within.high, place) });
        within = within;
        last = last;
        grown = λ c l. ⊎_elim (λ k. subst (Returns returns f (cell t r c)) (sym (growth_same w (sums ++ y ∷ []) sums (length sums) r c (before sums y) (omega (arith, h.count)))) (h.grown c k))
            (λ ge.
            let e : n ≡ c = omega arith in
            subst (λ j. Returns returns f (cell t r j) (growth w (sums ++ y ∷ []) r j)) e (subst (Returns returns f (cell t r n)) (sym new) found))
            (cases_lt c n);
      }

  row_done : (r : ℕ) (old sums : List ℤ) (z : ℤ) → RowsSummed returns f r t old → RowSummed returns f r t old (col_count t) z sums → RowsSummed returns f (r + 1) t sums
  row_done r old sums z h row =
      let n = col_count t in
      record {
        count = omega (arith, row.count, h.count);
        first = λ i le. ⊎_elim (λ l. row.kept (i * (n + 1) + 0) (corner_within r n i 0 (length old) h.count (omega arith) (omega arith)) ∙ h.first i (omega arith))
            (λ ge. let e : r + 1 ≡ i = omega arith in subst (λ j. at (n + 1) sums j 0 ≡ pos 0) e row.first)
            (cases_lt i (r + 1));
        small = row.small;
        grown = λ i c li lc. ⊎_elim (λ l. subst (Returns returns f (cell t i c)) (sym (growth_same (n + 1) sums old (length old) i c row.kept (corner_within r n (i + 1) (c + 1) (length old) h.count (omega arith) (omega arith)))) (h.grown i c l lc))
            (λ ge. let e : r ≡ i = omega arith in subst (λ j. Returns returns f (cell t j c) (growth (n + 1) sums j c)) e (row.grown c lc))
            (cases_lt i r);
      }

  -- the same, once all its numbers are in
  pub row_full : (r n : ℕ) (old sums : List ℤ) (z : ℤ) → n ≡ col_count t → RowsSummed returns f r t old → RowSummed returns f r t old n z sums → RowsSummed returns f (r + 1) t sums
  row_full r n old sums z e h row = row_done r old sums z h (subst (λ k. RowSummed returns f r t old k z sums) e row)

  -- what is made of them
  module _ (sums : List ℤ) (ht : IsTable t) (h : RowsSummed returns f (row_count t) t sums) where
    pub holds_sums : length sums < 2 ^ 60 → HoldsSums (row_count t) (col_count t) sums
    holds_sums below = record {
      size = IsSize-table t ht;
      count = h.count;
      below = below;
      small = h.small;
      numbers = λ r c lr lc. (h.grown r c lr lc).within;
    }

    -- where the closure returns k of the cell, the numbers are those
    same_as : (k : A → ℤ) → ((x : A) (z : ℤ) → ReturnsFor returns f x z → z ≡ k x) → numbers_of (row_count t) (col_count t) sums ≡ map (map k) t
    same_as k says =
        let m = row_count t in
        let n = col_count t in
        let full = numbers_full m n sums in
        let line : (r : ℕ) → r < m → row (map (map k) t) r ≡ map k (row t r) = λ r lr. get_or-map (map k) t r [] [] lr in
        same_tables (numbers_of m n sums) (map (map k) t) (numbers_rows m n sums ∙ sym (length-map t (map k)))
        (λ r lt.
        let lr : r < m = omega (arith, numbers_rows m n sums) in
        width-tabulate m n _ r full lr ∙ sym (ap length (line r lr) ∙ (length-map (row t r) k ∙ ht.even r lr)))
        (λ r c lt lc.
        let lr : r < m = omega (arith, numbers_rows m n sums) in
        let l : c < n = omega (arith, width-tabulate m n _ r full lr) in
        let is = h.grown r c lr l in
        let z = growth (n + 1) sums r c in
        let there : cell (map (map k) t) r c ≡ Some (k is.shown.now) = ap (λ xs. slice_get xs c) (line r lr) ∙ (slice_get-map k (row t r) c ∙ ap (option_map k) is.shows) in
        cell-tabulate m n _ r c full lr l ∙ (ap Some (says is.shown.now z (is.shown, refl, is.says)) ∙ sym there))

    pub are_numbers : AreNumbers (ReturnsFor returns f) t (numbers_of (row_count t) (col_count t) sums)
    are_numbers =
        let m = row_count t in
        let n = col_count t in
        let full = numbers_full m n sums in
        record {
          rows = numbers_rows m n sums;
          cols = numbers_cols m n sums (IsSize-table t ht);
          each = λ r c within.
              let is = h.grown r c within.0 within.1 in
              subst (λ o. IsSomeAnd o (λ z. (x : A) × (cell t r c ≡ Some x) × ReturnsFor returns f x z)) (sym (cell-tabulate m n _ r c full within.0 within.1)) (is.shown.now, is.shows, (is.shown, refl, is.says));
          mapped = λ k says. same_as k says;
        }
