-- What was written is read back: a number, a header, and samples.
use Rattle.std.proofs.Common.{◌≡◌, ℕ, ◌+◌, ◌-◌, ◌*◌, ◌<◌, ◌≤◌, ◌^◌, ◌==◌, Bool, true, false, nat_lt, Some, Ok, List, [], ◌∷◌, ◌++◌, length, take, drop, refl, ap, sym, ◌∙◌, arith, append_assoc, length-append, decimal, take_all}
use Rattle.grid_base.proofs.Common.{is_ascii_digit, all_ascii_digits, digits_value, nat_tests, digits_decimal, digits_value-decimal, decimal_nonempty, take-append_seam, drop-append_seam, drop-append-add, IsNumeralModel, numerals_by_value, tells_all_ascii_digits}
use Rattle.text_lines.specs.Numbers.{number_up_to, index_of}
use Rattle.grid_pnm.specs.declared.head.Header.{Header}
use Rattle.grid_pnm.specs.Scan.{is_white, after_gap, digit_count, number_at, next_number}
use Rattle.grid_pnm.specs.Header.{format, header_by, header_after}
use Rattle.grid_pnm.specs.Samples.{samples_of}
use Rattle.grid_pnm.proofs.ScanLemmas.{number_is}

digits_back : (n : ℕ) → n < 2 ^ 64 → (all_ascii_digits (decimal n) ≡ true) × (digits_value 10 (decimal n) ≡ n)
digits_back n small =
    let own : IsNumeralModel (λ ds. all_ascii_digits ds ≡ true) (digits_value 10) = numerals_by_value _ tells_all_ascii_digits in
    (digits_decimal own n small, digits_value-decimal own n small)

-- the decimals of a number, of which there are some, are an index
index_of_digits : (ds : List ℕ) (n : ℕ) → 0 < length ds → all_ascii_digits ds ≡ true → digits_value 10 ds ≡ n → n < 2 ^ 64 → index_of ds ≡ Some n
unfolding index_of number_up_to
index_of_digits [] n some digits value small = absurd (omega (arith, some))
index_of_digits (d ∷ ds) n some digits value small =
    let fits : nat_lt 18446744073709551615 n ≡ false = grind (arith, nat_tests) in
    rw (digits, value, fits) refl

count_is : (ds : List ℕ) (b : ℕ) (rest : List ℕ) → all_ascii_digits ds ≡ true → is_ascii_digit b ≡ false → digit_count (ds ++ b ∷ rest) ≡ length ds
count_is [] b rest digits end = rw end refl
count_is (d ∷ ds) b rest digits end =
    let digit : is_ascii_digit d ≡ true = grind (arith, nat_tests) in
    let others : all_ascii_digits ds ≡ true = grind (arith, nat_tests) in
    rw digit (omega (arith, count_is ds b rest others end))

-- no white space and no comment is before digits
no_gap : (ds rest : List ℕ) → 0 < length ds → all_ascii_digits ds ≡ true → after_gap false (ds ++ rest) ≡ ds ++ rest
no_gap [] rest some digits = absurd (omega (arith, some))
no_gap (d ∷ ds) rest some digits =
    let digit : is_ascii_digit d ≡ true = grind (arith, nat_tests) in
    let sign : (d == 35) ≡ false = grind (arith, nat_tests) in
    let white : is_white d ≡ false = grind (arith, nat_tests) in
    rw (sign, white) refl

number_back : (n b : ℕ) (rest : List ℕ) → n < 2 ^ 64 → is_ascii_digit b ≡ false → number_at (decimal n ++ b ∷ rest) ≡ Some (n, b ∷ rest)
number_back n b rest small end =
    let digits : all_ascii_digits (decimal n) ≡ true = (digits_back n small).0 in
    let count = count_is (decimal n) b rest digits end in
    number_is (decimal n ++ b ∷ rest) (decimal n) (b ∷ rest)
    (sym (take-append_seam (decimal n) (b ∷ rest)) ∙ ap (λ k. take k (decimal n ++ b ∷ rest)) (sym count))
    (sym (drop-append_seam (decimal n) (b ∷ rest)) ∙ ap (λ k. drop k (decimal n ++ b ∷ rest)) (sym count))
    n (index_of_digits (decimal n) n (decimal_nonempty n small) digits (digits_back n small).1 small)

next_back : (len n b : ℕ) (rest : List ℕ) → n < 2 ^ 64 → is_ascii_digit b ≡ false → next_number len (decimal n ++ b ∷ rest) ≡ Ok (n, b ∷ rest)
unfolding next_number
next_back len n b rest small end =
    let gap = no_gap (decimal n) (b ∷ rest) (decimal_nonempty n small) (digits_back n small).0 in
    rw (gap, number_back n b rest small end) refl

behind_white : (len white : ℕ) (rest : List ℕ) → (white == 35) ≡ false → is_white white ≡ true → next_number len (white ∷ rest) ≡ next_number len rest
unfolding next_number
behind_white len white rest sign is = rw (sign, is) refl

drop_front : (front raster : List ℕ) → drop (length (front ++ 10 ∷ raster) - length (10 ∷ raster) + 1) (front ++ 10 ∷ raster) ≡ raster
drop_front front raster =
    let at : length (front ++ 10 ∷ raster) - length (10 ∷ raster) + 1 ≡ length front + 1 = omega (arith, length-append front (10 ∷ raster)) in
    ap (λ k. drop k (front ++ 10 ∷ raster)) at ∙ drop-append-add front (10 ∷ raster) 1

-- what is read of a raw picture that was written
module _ (magic : List ℕ) (color : Bool) (rows cols : ℕ) (raster : List ℕ) where
  abbrev pub written_tail : List ℕ
  written_tail = 10 ∷ (decimal cols ++ 32 ∷ (decimal rows ++ 10 ∷ (decimal 255 ++ 10 ∷ raster)))

  abbrev pub written_header : ℕ → Header
  written_header len = record { color = color; plain = false; rows = rows; cols = cols; max = 255; raster = len - length (10 ∷ raster) + 1 }

  abbrev front : List ℕ
  front = magic ++ 10 ∷ (decimal cols ++ 32 ∷ (decimal rows ++ 10 ∷ decimal 255))

  whole : front ++ 10 ∷ raster ≡ magic ++ written_tail
  whole = simp append_assoc

  pub raster-le : length raster ≤ length (magic ++ written_tail)
  raster-le = omega (arith, ap length whole, length-append front (10 ∷ raster))

  pub header_back : (len : ℕ) → rows < 2 ^ 64 → cols < 2 ^ 64 → header_after len written_tail (Some (format color false)) ≡ Ok (written_header len)
  unfolding header_after header_by
  header_back len rows_small cols_small =
      let w = behind_white len 10 (decimal cols ++ 32 ∷ (decimal rows ++ 10 ∷ (decimal 255 ++ 10 ∷ raster))) refl refl ∙ next_back len cols 32 (decimal rows ++ 10 ∷ (decimal 255 ++ 10 ∷ raster)) cols_small refl in
      let h = behind_white len 32 (decimal rows ++ 10 ∷ (decimal 255 ++ 10 ∷ raster)) refl refl ∙ next_back len rows 10 (decimal 255 ++ 10 ∷ raster) rows_small refl in
      let m = behind_white len 10 (decimal 255 ++ 10 ∷ raster) refl refl ∙ next_back len 255 10 raster (omega arith) refl in
      rw (w, h, m) refl

  raster_back : drop (written_header (length (magic ++ written_tail))).raster (magic ++ written_tail) ≡ raster
  raster_back = rw (← whole) (drop_front front raster)

  pub samples_back : (channels : ℕ) → length raster ≡ rows * cols * channels → samples_of channels (magic ++ written_tail) (written_header (length (magic ++ written_tail))) ≡ Ok raster
  unfolding samples_of
  samples_back channels count =
      let enough : nat_lt (length raster) (rows * cols * channels) ≡ false = grind (arith, nat_tests) in
      let all : take (rows * cols * channels) raster ≡ raster = take_all (rows * cols * channels) raster (omega (arith, count)) in
      rw (raster_back, enough, all) refl
