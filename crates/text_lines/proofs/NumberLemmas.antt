-- What `parse` reads is the number that the definitions say.
use Rattle.std.proofs.Common.{◌≡◌, ◌≢◌, ℕ, ◌+◌, ◌<◌, ◌≤◌, ◌^◌, Bool, true, false, ◌&&◌, not, ltb, List, [], ◌∷◌, length, get_or, drop, cond, refl, ap, sym, ◌∙◌, arith, ℤ, pos, neg_ℤ, Some, None, Result, Ok, Err, option_map, OkIff, w64}
use Rattle.std.specs.Result.{result_ok}
use Rattle.std.specs.Str.{all_ascii_digits}
use Rattle.std.specs.Str.Parse.{digits_value, ParsesUnsigned, ParsesSigned, starts_with_minus}
use Rattle.std.proofs.lemmas.Str.Parse.{IsNumeralModel, numerals_by_value, tells_all_ascii_digits, parse_plain, parse_signed_plain, parse_signed_minus}
use Rattle.std.proofs.lemmas.Bool.Decides.{nat_tests}
use Rattle.text_lines.specs.Numbers.{number_up_to, index_of, cell_of}

own : IsNumeralModel (λ ds. all_ascii_digits ds ≡ true) (digits_value 10)
own = numerals_by_value _ tells_all_ascii_digits

none_unless : (a b c : Bool) (v : ℕ) → ¬ ((a ≡ true) × (b ≡ true) × (c ≡ false)) → cond (a && b && not c) (Some v) None ≡ None
none_unless true true true v h = refl
none_unless true true false v h = absurd (h (refl, refl, refl))
none_unless true false c v h = refl
none_unless false b c v h = refl

-- a word of digits alone that write at most so much is that number, and any other is none
number_is : (most : ℕ) (bs : List ℕ) → all_ascii_digits bs ≡ true → 0 < length bs → digits_value 10 bs ≤ most → number_up_to most bs ≡ Some (digits_value 10 bs)
unfolding number_up_to
number_is most [] d some small = absurd (omega (arith, some))
number_is most (b ∷ bs) d some small =
    let e : ltb most (digits_value 10 (b ∷ bs)) ≡ false = grind (arith, nat_tests) in
    rw (d, e) refl

number_none : (most : ℕ) (bs : List ℕ) → ¬ ((all_ascii_digits bs ≡ true) × (0 < length bs) × (digits_value 10 bs ≤ most)) → number_up_to most bs ≡ None
unfolding number_up_to
number_none most [] bad = refl
number_none most (b ∷ bs) bad =
    none_unless true (all_ascii_digits (b ∷ bs)) (ltb most (digits_value 10 (b ∷ bs))) _ (λ q.
    let e : ltb most (digits_value 10 (b ∷ bs)) ≡ false = q.2 in
    let small : digits_value 10 (b ∷ bs) ≤ most = grind (arith, nat_tests) in
    bad (q.1, omega arith, small))

number_from : {E : Type 0} (limit most : ℕ) (bs : List ℕ) (r : Result ℕ E) → most + 1 ≡ limit → OkIff r ((all_ascii_digits bs ≡ true) × (0 < length bs) × (digits_value 10 bs < limit)) (digits_value 10 bs) → result_ok r ≡ number_up_to most bs
number_from limit most bs (Ok x) e h = ap Some h.1 ∙ sym (number_is most bs h.0.0 h.0.1 (omega (arith, h.0.2, e)))
number_from limit most bs (Err x) e h = sym (number_none most bs (λ q. h (q.0, q.1, omega (arith, q.2, e))))

-- no plus is before a number
no_plus : (most : ℕ) (bs : List ℕ) → get_or bs 0 0 ≡ 43 → number_up_to most bs ≡ None
unfolding number_up_to
no_plus most [] e = refl
no_plus most (b ∷ bs) e = rw e refl

pub index_plus : (bs : List ℕ) → get_or bs 0 0 ≡ 43 → index_of bs ≡ None
unfolding index_of
index_plus bs e = no_plus _ bs e

pub index_from : {E : Type 0} (bs : List ℕ) (r : Result ℕ E) → get_or bs 0 0 ≢ 43 → ParsesUnsigned 64 10 bs r → result_ok r ≡ index_of bs
unfolding index_of
index_from bs r plain h = number_from (2 ^ 64) _ bs r refl (parse_plain own 64 bs r h plain)

pub cell_plus : (bs : List ℕ) → get_or bs 0 0 ≡ 43 → cell_of bs ≡ None
unfolding cell_of
cell_plus bs e = rw e (rw (no_plus 9223372036854775807 bs e) refl)

-- the same of signed numbers
pos_from : {E : Type 0} (bs : List ℕ) (r : Result ℤ E) → OkIff r ((all_ascii_digits bs ≡ true) × (0 < length bs) × (digits_value 10 bs < 9223372036854775808)) (pos (digits_value 10 bs)) → result_ok r ≡ option_map (λ n. pos n) (number_up_to 9223372036854775807 bs)
pos_from bs (Ok x) h = rw (number_is 9223372036854775807 bs h.0.0 h.0.1 (omega (arith, h.0.2))) (ap Some h.1)
pos_from bs (Err x) h = rw (number_none 9223372036854775807 bs (λ q. h (q.0, q.1, omega (arith, q.2)))) refl

neg_from : {E : Type 0} (bs : List ℕ) (r : Result ℤ E) → OkIff r ((all_ascii_digits bs ≡ true) × (0 < length bs) × (digits_value 10 bs ≤ 9223372036854775808)) (neg_ℤ (pos (digits_value 10 bs))) → result_ok r ≡ option_map (λ n. neg_ℤ (pos n)) (number_up_to 9223372036854775808 bs)
neg_from bs (Ok x) h = rw (number_is 9223372036854775808 bs h.0.0 h.0.1 (omega (arith, h.0.2))) (ap Some h.1)
neg_from bs (Err x) h = rw (number_none 9223372036854775808 bs (λ q. h (q.0, q.1, omega (arith, q.2)))) refl

cell_at : {E : Type 0} (bs : List ℕ) (r : Result ℤ E) (minus : Bool) → starts_with_minus bs ≡ minus → get_or bs 0 0 ≢ 43 → ParsesSigned w64 10 bs r → result_ok r ≡ cell_of bs
unfolding cell_of
cell_at bs r true e plain h =
    let is : get_or bs 0 0 ≡ 45 = grind (arith, nat_tests) in
    rw e (neg_from (drop 1 bs) r (parse_signed_minus own w64 bs r h is))
cell_at bs r false e plain h =
    let other : get_or bs 0 0 ≢ 45 = grind (arith, nat_tests) in
    rw e (pos_from bs r (parse_signed_plain own w64 bs r h plain other))

pub cell_from : {E : Type 0} (bs : List ℕ) (r : Result ℤ E) → get_or bs 0 0 ≢ 43 → ParsesSigned w64 10 bs r → result_ok r ≡ cell_of bs
cell_from bs r plain h = cell_at bs r (starts_with_minus bs) refl plain h
