-- The words of a line of numbers are their decimals.
use Rattle.std.proofs.Common.{◌≡◌, ℕ, ℤ, pos, negsuc, suc, ◌+◌, ◌%◌, ◌<◌, ◌≤◌, ◌^◌, ◌==◌, zero, true, false, Option, Ok, List, [], ◌∷◌, ◌++◌, length, map, get_or, All, refl, ap, ◌∙◌, arith, append-nil, flat_map, filter, decimal, ne_eqb}
use Rattle.grid_text.proofs.Common.{mag, slice_split, signed_decimal, decimal_by_steps_wide, All-append, All-push, slice_split_at, slice_split_none, IsTable, numbers, separates, is_word, words_of, lines_of, ReadsNumber, bad_word, reading_words, line_of_numbers, numbers_text}
use Rattle.grid_text.proofs.BackLemmas.{IsLine, IsWritten, table_back}

-- what stands for a number: a minus or digits, and at least one
pub record IsSigned (bytes : List ℕ) : Type 0 where
  pub some : 0 < length bytes
  pub signs : All (λ b. 45 ≤ b) bytes

one_sign : (b : ℕ) → 45 ≤ b → All (λ b. 45 ≤ b) (b ∷ [])
one_sign b le zero d lt = le
one_sign b le (suc k) d lt = absurd (omega (arith, lt))

signed_number : (n : ℕ) → n < 10 ^ 64 → IsSigned (decimal n)
signed_number n small =
    decimal_by_steps_wide (λ n ds. IsSigned ds) (λ n lt. record { some = omega arith; signs = one_sign (48 + n) (omega arith) })
    (λ n ds le i. record { some = more ds (48 + n % 10); signs = All-push (λ b. 45 ≤ b) ds (48 + n % 10) i.signs (omega arith) }) n small
  where
    more : (ds : List ℕ) (b : ℕ) → 0 < length (ds ++ b ∷ [])
    more [] b = omega arith
    more (d ∷ ds) b = omega arith

pub signed_whole : (z : ℤ) → mag z + 1 < 10 ^ 64 → IsSigned (signed_decimal z)
signed_whole (pos n) small = signed_number n (omega arith)
signed_whole (negsuc n) small =
    let i = signed_number (suc n) (omega arith) in
    record { some = omega arith; signs = All-append (λ b. 45 ≤ b) (45 ∷ []) (decimal (suc n)) (one_sign 45 (omega arith)) i.signs }

not_separator : (b : ℕ) → 45 ≤ b → separates b ≡ false
not_separator b le =
    let space : (b == 32) ≡ false = ne_eqb b 32 (λ e. absurd (omega arith)) in
    let tab : (b == 9) ≡ false = ne_eqb b 9 (λ e. absurd (omega arith)) in
    rw (space, tab) refl

no_separators : (bytes : List ℕ) → All (λ b. 45 ≤ b) bytes → All (λ b. separates b ≡ false) bytes
no_separators bytes signs = λ k d lt. not_separator _ (signs k d lt)

-- numbers that have decimals
abbrev pub AreSmall : List ℤ → Type 0
AreSmall zs = All (λ z. mag z + 1 < 10 ^ 64) zs

later : (z : ℤ) (zs : List ℤ) → AreSmall (z ∷ zs) → AreSmall zs
later z zs all = λ k d lt. all (suc k) d (omega (arith, lt))

first : (z : ℤ) (zs : List ℤ) → AreSmall (z ∷ zs) → IsSigned (signed_decimal z)
first z zs all = signed_whole z (all 0 z (omega arith))

abbrev behind_spaces : List ℤ → List ℕ
behind_spaces zs = flat_map (λ z. 32 ∷ signed_decimal z) zs

parts_are : (bytes : List ℕ) (zs : List ℤ) → All (λ b. 45 ≤ b) bytes → AreSmall zs → slice_split separates (bytes ++ behind_spaces zs) ≡ bytes ∷ map signed_decimal zs
parts_are bytes [] signs all = ap (slice_split separates) (append-nil bytes) ∙ slice_split_none separates bytes (no_separators bytes signs)
parts_are bytes (z ∷ zs) signs all =
    slice_split_at separates bytes 32 (signed_decimal z ++ behind_spaces zs) (no_separators bytes signs) refl
    ∙ ap (λ ps. bytes ∷ ps) (parts_are (signed_decimal z) zs (first z zs all).signs (later z zs all))

words_stay : (zs : List ℤ) → AreSmall zs → filter is_word (map signed_decimal zs) ≡ map signed_decimal zs
words_stay [] all = refl
words_stay (z ∷ zs) all =
    let one : is_word (signed_decimal z) ≡ true = word_is (signed_decimal z) (first z zs all).some in
    rw one (ap (λ ws. signed_decimal z ∷ ws) (words_stay zs (later z zs all)))
  where
    word_is : (bytes : List ℕ) → 0 < length bytes → is_word bytes ≡ true
    word_is [] some = absurd (omega arith)
    word_is (b ∷ bytes) some = refl

pub words_are : (zs : List ℤ) → AreSmall zs → words_of (line_of_numbers zs) ≡ map signed_decimal zs
words_are [] all = refl
words_are (z ∷ zs) all = ap (filter is_word) (parts_are (signed_decimal z) zs (first z zs all).signs (later z zs all)) ∙ words_stay (z ∷ zs) all

behind_space : (bytes : List ℕ) → All (λ b. 45 ≤ b) bytes → All (λ b. 32 ≤ b) (32 ∷ bytes)
behind_space bytes signs zero d lt = omega arith
behind_space bytes signs (suc k) d lt = omega (arith, signs k d (omega (arith, lt)))

plain_behind : (zs : List ℤ) → AreSmall zs → All (λ b. 32 ≤ b) (behind_spaces zs)
plain_behind [] all = λ k d lt. absurd (omega (arith, lt))
plain_behind (z ∷ zs) all = All-append (λ b. 32 ≤ b) (32 ∷ signed_decimal z) (behind_spaces zs) (behind_space (signed_decimal z) (first z zs all).signs) (plain_behind zs (later z zs all))

plain_line : (zs : List ℤ) → AreSmall zs → All (λ b. 32 ≤ b) (line_of_numbers zs)
plain_line [] all = λ k d lt. absurd (omega (arith, lt))
plain_line (z ∷ zs) all =
    All-append (λ b. 32 ≤ b) (signed_decimal z) (behind_spaces zs) (λ k d lt. omega (arith, (first z zs all).signs k d lt)) (plain_behind zs (later z zs all))

pub line_is : (zs : List ℤ) → AreSmall zs → IsLine (line_of_numbers zs)
line_is zs all =
    let plain = plain_line zs all in
    record {
      no_feed = λ k d lt. ne_eqb _ 10 (λ e. absurd (omega (arith, plain k d lt, e)));
      no_return = λ k d lt. ne_eqb _ 13 (λ e. absurd (omega (arith, plain k d lt, e)));
    }

-- what is read of the text of a table of numbers is the table
module _ {T : Type 0} (whole : T → ℤ) (h : List ℕ → Option T) where
  smalls : (row : List T) → All (ReadsNumber whole h) row → AreSmall (map whole row)
  smalls [] all k d lt = absurd (omega (arith, lt))
  smalls (x ∷ row) all zero d lt = (all 0 x (omega arith)).small
  smalls (x ∷ row) all (suc k) d lt = smalls row (λ i e l. all (suc i) e (omega (arith, l))) k d (omega (arith, lt))

  each_decimal : (row : List T) → map signed_decimal (map whole row) ≡ map (λ x. signed_decimal (whole x)) row
  each_decimal [] = refl
  each_decimal (x ∷ row) = ap (λ ws. signed_decimal (whole x) ∷ ws) (each_decimal row)

  text_is : (rows : List (List T)) → numbers_text (numbers whole rows) ≡ flat_map (λ row. line_of_numbers (map whole row) ++ 10 ∷ []) rows
  text_is [] = refl
  text_is (row ∷ rows) = ap (λ text. (line_of_numbers (map whole row) ++ 10 ∷ []) ++ text) (text_is rows)

  pub numbers_back : (rows : List (List T)) → All (All (ReadsNumber whole h)) rows → IsTable rows → reading_words h (lines_of (numbers_text (numbers whole rows))) ≡ Ok rows
  numbers_back rows all table =
      ap (λ text. reading_words h (lines_of text)) (text_is rows)
      ∙ table_back words_of bad_word (λ x. signed_decimal (whole x)) h (λ row. line_of_numbers (map whole row)) rows (λ i d lt. written (get_or rows i d) (all i d lt)) table
    where
      written : (row : List T) → All (ReadsNumber whole h) row → IsWritten words_of bad_word (λ x. signed_decimal (whole x)) h (λ row. line_of_numbers (map whole row)) row
      written row all = record {
        line = line_is (map whole row) (smalls row all);
        parts_are = words_are (map whole row) (smalls row all) ∙ each_decimal row;
        reads = λ i d lt. (all i d lt).reads;
      }
