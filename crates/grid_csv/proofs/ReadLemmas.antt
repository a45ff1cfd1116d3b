-- What may be read is what a function reads, where it gives whatever may be answered.
use Rattle.std.proofs.Common.{◌≡◌, ◌≢◌, inl, inr, ℕ, suc, ◌+◌, ◌==◌, Bool, true, false, if◌then◌else◌, Option, Some, None, Result, Ok, Err, MatchResult, List, [], ◌∷◌, ◌++◌, length, refl, sym, ap, subst, ◌∙◌, arith, Bor, MatchBool, eq-eqb, ne_eqb}
use Rattle.grid_csv.proofs.Common.{is_utf8, AllZip-long, GridValue, AnswersField, AreCells, AreRows, IsBadAt, IsBadRecord, IsFault, IsOrMemory, MayRead, MayReadBelow, ReadsBy, below_header, cell_before, cell_of, first_of, later_of, prepend, read_fields, read_header, read_records, reading_below, row_before}
use Rattle.std.specs.declared.alloc.AllocError.{AllocError}
use Rattle.grid_csv.specs.declared.error.CsvError.{CsvError}
use Rattle.grid_csv.specs.declared.error.CsvError.TheVariants.{BadField, Ragged, Memory}

-- what the closure answers at a field, the function gives
pub cell_is : {F T : Type 0} (returns : F → Bor (List ℕ) → Result (Option T) AllocError → Type 0) (read : F) (h : List ℕ → Option T) → ReadsBy returns read h → (field : List ℕ) (cell : Option T) → AnswersField returns read field cell → cell ≡ cell_of h field
cell_is {F} {T} returns read h by field cell answer = by_test (is_utf8 field) answer
  where
    by_test : (b : Bool) → MatchBool b ((text : Bor (List ℕ)) × (text.now ≡ field) × returns read text (Ok cell)) (cell ≡ None) → cell ≡ (if b then h field else None)
    by_test true (text, is, gave) = by text cell gave ∙ ap h is
    by_test false none = none

module _ {T : Type 0} (R : List ℕ → Option T → Type 0) (h : List ℕ → Option T) (by : (field : List ℕ) (cell : Option T) → R field cell → cell ≡ cell_of h field) where
  pub fields_are : (number place : ℕ) (fields : List (List ℕ)) (cells : List T) → AreCells R fields cells → read_fields h number place fields ≡ Ok cells
  fields_are number place [] [] all = refl
  fields_are number place [] (c ∷ cells) all = absurd all
  fields_are number place (f ∷ fields) [] all = absurd all
  fields_are number place (f ∷ fields) (c ∷ cells) all =
      ap (λ o. cell_before number place o (read_fields h number (place + 1) fields)) (sym (by f (Some c) all.0))
      ∙ ap (prepend c) (fields_are number (place + 1) fields cells all.1)

  bad_field : (number place : ℕ) (before after : List (List ℕ)) (field : List ℕ) (cells : List T) → AreCells R before cells → R field None → read_fields h number place (before ++ field ∷ after) ≡ Err (BadField number (place + length before))
  bad_field number place [] after field [] all bad =
      let e : place ≡ place + 0 = omega arith in
      ap (λ o. cell_before number place o (read_fields h number (place + 1) after)) (sym (by field None bad))
      ∙ ap (λ n. Err (BadField number n)) e
  bad_field number place [] after field (c ∷ cells) all bad = absurd all
  bad_field number place (f ∷ before) after field [] all bad = absurd all
  bad_field number place (f ∷ before) after field (c ∷ cells) all bad =
      let e : place + 1 + length before ≡ place + suc (length before) = omega arith in
      ap (λ o. cell_before number place o (read_fields h number (place + 1) (before ++ field ∷ after))) (sym (by f (Some c) all.0))
      ∙ (ap (prepend c) (bad_field number (place + 1) before after field cells all.1 bad) ∙ ap (λ n. Err (BadField number n)) e)

  pub bad_at : (number place : ℕ) (fields : List (List ℕ)) → IsBadAt R fields place → read_fields h number 1 fields ≡ Err (BadField number place)
  bad_at number place fields bad =
      let e : 1 + length bad.before ≡ place = omega (arith, bad.is_place) in
      ap (read_fields h number 1) bad.parts
      ∙ (bad_field number 1 bad.before bad.after bad.field bad.cells bad.are_cells bad.bad ∙ ap (λ n. Err (BadField number n)) e)

  good_row : (number cols : ℕ) (row : List T) (later : Result (List (List T)) CsvError) → length row ≡ cols → row_before number cols (Ok row) later ≡ prepend row later
  good_row number cols row later e =
      let test : (length row == cols) ≡ true = eq-eqb (length row) cols e in
      rw test refl

  ragged_row : (number cols : ℕ) (row : List T) (later : Result (List (List T)) CsvError) → length row ≢ cols → row_before number cols (Ok row) later ≡ Err (Ragged number (length row) cols)
  ragged_row number cols row later ne =
      let test : (length row == cols) ≡ false = ne_eqb (length row) cols ne in
      rw test refl

  first_row : (number cols : ℕ) (fields : List (List ℕ)) (later : List (List (List ℕ))) (row : List T) → AreCells R fields row → length row ≡ cols → read_records h number cols (fields ∷ later) ≡ prepend row (read_records h (number + 1) cols later)
  first_row number cols fields later row all same =
      ap (λ r. row_before number cols r (read_records h (number + 1) cols later)) (fields_are number 1 fields row all)
      ∙ good_row number cols row (read_records h (number + 1) cols later) same

  pub rows_are : (number cols : ℕ) (records : List (List (List ℕ))) (rows : List (List T)) → AreRows R cols records rows → read_records h number cols records ≡ Ok rows
  rows_are number cols [] [] all = refl
  rows_are number cols [] (r ∷ rows) all = absurd all
  rows_are number cols (f ∷ records) [] all = absurd all
  rows_are number cols (f ∷ records) (r ∷ rows) all =
      first_row number cols f records r all.0.0 all.0.1 ∙ ap (prepend r) (rows_are (number + 1) cols records rows all.1)

  bad_first : (number cols : ℕ) (fields : List (List ℕ)) (later : List (List (List ℕ))) (e : CsvError) → IsBadRecord R number cols fields e → read_records h number cols (fields ∷ later) ≡ Err e
  bad_first number cols fields later (BadField r place) (is, bad) =
      ap (λ x. row_before number cols x (read_records h (number + 1) cols later)) (bad_at number place fields bad)
      ∙ ap (λ n. Err (BadField n place)) (sym is)
  bad_first number cols fields later (Ragged r len n) (is, len_is, cols_is, ne, (cells, all)) =
      let wide : length cells ≡ len = AllZip-long _ fields cells all ∙ sym len_is in
      ap (λ x. row_before number cols x (read_records h (number + 1) cols later)) (fields_are number 1 fields cells all)
      ∙ (ragged_row number cols cells (read_records h (number + 1) cols later) (λ e. ne (sym wide ∙ e))
      ∙ rw (is, cols_is, wide) refl)
  bad_first number cols fields later Memory bad = absurd bad

  bad_later : (number cols : ℕ) (before after : List (List (List ℕ))) (fields : List (List ℕ)) (rows : List (List T)) (e : CsvError) → AreRows R cols before rows → IsBadRecord R (number + length before) cols fields e → read_records h number cols (before ++ fields ∷ after) ≡ Err e
  bad_later number cols [] after fields [] e all bad =
      bad_first number cols fields after e (subst (λ n. IsBadRecord R n cols fields e) (omega arith) bad)
  bad_later number cols [] after fields (r ∷ rows) e all bad = absurd all
  bad_later number cols (f ∷ before) after fields [] e all bad = absurd all
  bad_later number cols (f ∷ before) after fields (r ∷ rows) e all bad =
      first_row number cols f (before ++ fields ∷ after) r all.0.0 all.0.1
      ∙ ap (prepend r) (bad_later (number + 1) cols before after fields rows e all.1 (subst (λ n. IsBadRecord R n cols fields e) (omega arith) bad))

  pub fault_is : (number cols : ℕ) (records : List (List (List ℕ))) (e : CsvError) → IsFault R number cols records e → read_records h number cols records ≡ Err e
  fault_is number cols records e f = ap (read_records h number cols) f.parts ∙ bad_later number cols f.before f.after f.fields f.rows e f.are_rows f.bad

  pub reading_is : (number cols : ℕ) (records : List (List (List ℕ))) (answer : Result (GridValue T) CsvError) → MayRead R number cols records answer → IsOrMemory (read_records h number cols records) answer
  reading_is number cols records (Ok g) may = inr (rows_are number cols records g.rows may.0, may.1)
  reading_is number cols records (Err e) (inl none) = inl (ap Err none)
  reading_is number cols records (Err e) (inr f) = inr (fault_is number cols records e f)

  pub reading_below_is : (records : List (List (List ℕ))) (answer : Result (GridValue T) CsvError) → MayReadBelow R records answer → IsOrMemory (reading_below h records) answer
  reading_below_is records answer (inl none) = inl none
  reading_below_is records answer (inr may) = by_header (read_header (first_of records)) may
    where
      by_header : (r : Result (List (List ℕ)) CsvError) → MatchResult r (λ names. MayRead R 2 (length (first_of records)) (later_of records) answer) (λ e. answer ≡ Err e)
          → IsOrMemory (below_header r (read_records h 2 (length (first_of records)) (later_of records))) answer
      by_header (Ok names) m = reading_is 2 (length (first_of records)) (later_of records) answer m
      by_header (Err e) is = rw is (inr refl)
