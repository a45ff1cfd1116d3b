-- Texts item by item and row by row.
use Rattle.std.proofs.Common.{◌≡◌, ℕ, zero, suc, ◌+◌, ◌-◌, ◌^◌, ◌<◌, ◌≤◌, ℤ, pos, negsuc, List, [], ◌∷◌, ◌++◌, length, take, map, replicate, codes, refl, sym, ap, ◌∙◌, arith, append_assoc, append-nil, cond, ltb, max, true, false, ◌≢◌, Some, OnOk, is_ok, if◌then◌else◌, flat_map, slice_get, decimal, take_all, lt-ltb, le-ltb, ne_eqb, nat_cmp}
use Rattle.grid_base.proofs.Common.{join_by, repeat, signed_decimal, styled_signed_decimal, format_spec, padded_integral, char_count, take_more, map-append, length-map, flat_map_more, nat_tests, ord_max, row, row_count, col_count, IsTable, concat_rows}
use Rattle.grid_base.proofs.ClosureLemmas.{take_next}
use Rattle.grid_view.specs.Texts.{numbers, longest, right_aligned, row_line, text_in_width}
use Rattle.std.specs.declared.result.Result.{Result}
use Rattle.std.specs.declared.result.Result.TheVariants.{Ok, Err}
use Rattle.std.specs.Char.{encode_utf8}

pub length_before : {X : Type 0} (xs : List X) (i : ℕ) (x : X) → slice_get xs i ≡ Some x → length (take i xs) ≡ i
length_before [] i x e = absurd (cc)
length_before (y ∷ ys) zero x e = refl
length_before (y ∷ ys) (suc i) x e = ap suc (length_before ys i x e)

pub flat_map_push : {X B : Type 0} (f : X → List B) (xs : List X) (x : X) → flat_map f (xs ++ x ∷ []) ≡ flat_map f xs ++ f x
flat_map_push f xs x = sym (flat_map_more f [] xs x)

-- one more row
pub flat_map_next : {X B : Type 0} (f : List X → List B) (t : List (List X)) (r : ℕ) → r < row_count t → flat_map f (take (r + 1) t) ≡ flat_map f (take r t) ++ f (row t r)
flat_map_next f t r lt = ap (flat_map f) (take_more t r [] lt) ∙ flat_map_push f (take r t) (row t r)

join_by_push : {X B : Type 0} (f : X → List B) (lead : List B) (xs : List X) (x : X) → join_by f lead (xs ++ x ∷ []) ≡ join_by f lead xs ++ (cond (ltb 0 (length xs)) lead [] ++ f x)
join_by_push f lead [] x = append-nil (f x)
join_by_push f lead (y ∷ ys) x =
    rw (lt-ltb 0 (suc (length ys)) (omega arith)) (ap (λ l. f y ++ l) (flat_map_push (λ z. lead ++ f z) ys x) ∙ sym (append_assoc (f y) _ _))

-- one more item after its lead
pub join_next : {X Y B : Type 0} (w : X → Y) (f : Y → List B) (lead : List B) (xs : List X) (i : ℕ) (x : X) → slice_get xs i ≡ Some x
    → join_by f lead (map w (take (i + 1) xs)) ≡ join_by f lead (map w (take i xs)) ++ (cond (ltb 0 i) lead [] ++ f (w x))
join_next w f lead xs i x e =
    let len : length (map w (take i xs)) ≡ i = length-map (take i xs) w ∙ length_before xs i x e in
    ap (λ l. join_by f lead (map w l)) (take_next xs i x e)
    ∙ (ap (join_by f lead) (map-append w (take i xs) (x ∷ []))
    ∙ (join_by_push f lead (map w (take i xs)) (w x) ∙ ap (λ n. join_by f lead (map w (take i xs)) ++ (cond (ltb 0 n) lead [] ++ f (w x))) len))

longest_append : (xs ys : List ℤ) → longest (xs ++ ys) ≡ max (longest xs) (longest ys)
longest_append [] ys = omega arith
longest_append (x ∷ xs) ys = omega (arith, longest_append xs ys)

-- one more number of a row
pub longest_next : {X : Type 0} (w : X → ℤ) (xs : List X) (i : ℕ) (x : X) → slice_get xs i ≡ Some x
    → longest (map w (take (i + 1) xs)) ≡ max (longest (map w (take i xs))) (length (signed_decimal (w x)))
longest_next w xs i x e =
    let more : map w (take (i + 1) xs) ≡ map w (take i xs) ++ w x ∷ [] = ap (map w) (take_next xs i x e) ∙ map-append w (take i xs) (x ∷ []) in
    ap longest more ∙ (longest_append (map w (take i xs)) (w x ∷ []) ∙ omega arith)

-- one more row
pub longest_rows : {X : Type 0} (w : X → ℤ) (t : List (List X)) (r : ℕ) → r < row_count t
    → longest (flat_map (λ row. map w row) (take (r + 1) t)) ≡ max (longest (flat_map (λ row. map w row) (take r t))) (longest (map w (row t r)))
longest_rows w t r lt = ap longest (flat_map_next (λ row. map w row) t r lt) ∙ longest_append (flat_map (λ row. map w row) (take r t)) (map w (row t r))

-- a row of a table has as many cells as there are columns
pub whole_row : {X : Type 0} (t : List (List X)) (r c : ℕ) → IsTable t → r < row_count t → col_count t ≤ c → take c (row t r) ≡ row t r
whole_row t r c h lt past = take_all c (row t r) (omega (arith, h.even r lt))

-- the numbers of all rows
pub joined_numbers : {X : Type 0} (w : X → ℤ) (t : List (List X)) → flat_map (λ row. map w row) t ≡ concat_rows (numbers w t)
joined_numbers w [] = refl
joined_numbers w (row ∷ t) = ap (λ l. map w row ++ l) (joined_numbers w t)

-- what `max` answers of two numbers
pub max_is : (a b : ℕ) → ord_max nat_cmp a b ≡ max a b
max_is a b = grind (arith, nat_tests)

-- ---- a number under a width

spaces : (n : ℕ) → repeat n (encode_utf8 32) ≡ replicate n 32
unfolding encode_utf8
spaces zero = refl
spaces (suc n) = ap (λ l. 32 ∷ l) (spaces n)

pub wide_front : (width : ℕ) (n : ℕ) → padded_integral (format_spec 32 3 0 width (2 ^ 64 - 1)) false [] (decimal n) ≡ replicate (width - length (decimal n)) 32 ++ decimal n
unfolding padded_integral char_count
wide_front width n =
    let padding = width - length (decimal n) - 0 - 0 in
    let none : padding - padding ≡ 0 = omega arith in
    let short : padding ≡ width - length (decimal n) = omega arith in
    rw (none, spaces padding, short) (simp append-nil)

pub wide_minus : (width : ℕ) (n : ℕ) → padded_integral (format_spec 32 3 0 width (2 ^ 64 - 1)) true [] (decimal n) ≡ replicate (width - suc (length (decimal n))) 32 ++ 45 ∷ decimal n
unfolding padded_integral char_count
wide_minus width n =
    let padding = width - length (decimal n) - 1 - 0 in
    let none : padding - padding ≡ 0 = omega arith in
    let short : padding ≡ width - suc (length (decimal n)) = omega arith in
    rw (none, spaces padding, short) (simp (append-nil, append_assoc))

pub aligned : (width : ℕ) (z : ℤ) → styled_signed_decimal (format_spec 32 3 0 width (2 ^ 64 - 1)) z ≡ right_aligned width z
aligned zero z = let none : 0 - length (signed_decimal z) ≡ 0 = omega arith in rw none
aligned (suc w) (pos n) = let wide : suc w ≢ 0 = omega arith in rw (ne_eqb (suc w) 0 wide, le-ltb n 0 (omega arith)) (wide_front (suc w) n)
aligned (suc w) (negsuc n) = let wide : suc w ≢ 0 = omega arith in rw (ne_eqb (suc w) 0 wide) (wide_minus (suc w) (suc n))

-- what was pushed at the end, where it was
pub ended : {E : Type 0} (r : Result Unit E) (new before old front end : List ℕ) → new ≡ (if is_ok r then before ++ end else before) → before ≡ old ++ front → OnOk r (new ≡ old ++ (front ++ end))
ended (Ok u) new before old front end e b = e ∙ (ap (λ l. l ++ end) b ∙ append_assoc old front end)
ended (Err u) new before old front end e b = tt

-- lines for all rows
lines_of : {X : Type 0} (w : X → ℤ) (width : ℕ) (t : List (List X)) → flat_map (λ row. row_line width (map w row)) t ≡ flat_map (row_line width) (numbers w t)
lines_of w width [] = refl
lines_of w width (row ∷ t) = ap (λ l. row_line width (map w row) ++ l) (lines_of w width t)

pub text_of_lines : {X : Type 0} (w : X → ℤ) (width : ℕ) (t : List (List X)) → row_count t ≢ 0 → codes "[\n" ++ (flat_map (λ row. row_line width (map w row)) t ++ codes "]") ≡ text_in_width width (numbers w t)
text_of_lines w width [] some = absurd (some refl)
text_of_lines w width (row ∷ t) some = ap (λ l. codes "[\n" ++ (l ++ codes "]")) (lines_of w width (row ∷ t))
