-- What was written of a table is read as the table.
use Rattle.std.proofs.Common.{◌≡◌, inl, inr, ℕ, suc, ◌+◌, ◌<◌, true, Option, Some, None, Result, Ok, Err, List, [], ◌∷◌, ◌++◌, length, map, get_or, All, IfOk, IfErr, IsUtf8, refl, sym, ap, subst, ◌∙◌, arith, Bor, MutBor}
use Rattle.grid_csv.proofs.Common.{⊤, AllZip, each_same, is_utf8, length-map, get_or_default, All-map, is_utf8-from_IsUtf8, row, IsTable, GridValue, strip_bom, ReadsBack, AnswersField, AreCells, AreRows, IsBadRecord, IsFault, MayRead, first_of, records_of, AnswersCell, MayWrite, WritesBy, sheet_text}
use Rattle.std.specs.declared.string.String.{String}
use Rattle.std.specs.declared.alloc.AllocError.{AllocError}
use Rattle.grid_csv.specs.declared.error.CsvError.{CsvError}
use Rattle.grid_csv.specs.declared.error.CsvError.TheVariants.{BadField, Ragged, Memory}
use Rattle.grid_csv.proofs.ZipLemmas.{zip_more, zip_left}
use Rattle.grid_csv.proofs.WriteLemmas.{field_is, field_utf8, lines_are}
use Rattle.grid_csv.proofs.BackLemmas.{sheet_back}

all_middle : {X : Type 0} (P : X → Type 0) (before after : List X) (x : X) → All P (before ++ x ∷ after) → P x
all_middle P [] after x all = all 0 x (omega arith)
all_middle P (b ∷ before) after x all = all_middle P before after x (λ i d lt. all (suc i) d (omega arith))

-- whatever may be read of the text of a cell is a cell that S allows
module _ {T : Type 0} (R : List ℕ → Option T → Type 0) (w : T → List ℕ) (S : T → T → Type 0) where
  abbrev Gives : T → Type 0
  Gives x = (cell : Option T) → R (w x) cell → (y : T) × (cell ≡ Some y) × S x y

  gives_some : (x y : T) → Gives x → R (w x) (Some y) → S x y
  gives_some x y gives may =
      let g = gives (Some y) may in
      let same : y ≡ g.0 = cc (g.1) in
      subst (S x) (sym same) g.2

  row_back : (row cells : List T) → All Gives row → AreCells R (map w row) cells → AllZip S row cells
  row_back [] [] all cells = tt
  row_back [] (y ∷ ys) all cells = absurd cells
  row_back (x ∷ row) [] all cells = absurd cells
  row_back (x ∷ row) (y ∷ ys) all cells = (gives_some x y (all 0 x (omega arith)) cells.0, row_back row ys (λ i d lt. all (suc i) d (omega arith)) cells.1)

  rows_back : (cols : ℕ) (rows again : List (List T)) → All (All Gives) rows → AreRows R cols (map (map w) rows) again → AllZip (AllZip S) rows again
  rows_back cols [] [] all are = tt
  rows_back cols [] (y ∷ ys) all are = absurd are
  rows_back cols (r ∷ rows) [] all are = absurd are
  rows_back cols (r ∷ rows) (y ∷ ys) all are = (row_back r y (all 0 r (omega arith)) are.0.0, rows_back cols rows ys (λ i d lt. all (suc i) d (omega arith)) are.1)

  -- no record is bad
  record IsGood (cols : ℕ) (fields : List (List ℕ)) : Type 0 where
    reads : All (λ field. R field None → ⊥) fields
    wide : length fields ≡ cols

  no_bad : (number cols : ℕ) (fields : List (List ℕ)) (e : CsvError) → IsGood cols fields → IsBadRecord R number cols fields e → ⊥
  no_bad number cols fields (BadField r place) good (is, bad) =
      all_middle (λ field. R field None → ⊥) bad.before bad.after bad.field (subst (All (λ field. R field None → ⊥)) bad.parts good.reads) bad.bad
  no_bad number cols fields (Ragged r len n) good (is, len_is, cols_is, ne, cells) = ne (len_is ∙ good.wide)
  no_bad number cols fields Memory good bad = bad

  no_fault : (number cols : ℕ) (records : List (List (List ℕ))) (e : CsvError) → All (IsGood cols) records → IsFault R number cols records e → ⊥
  no_fault number cols records e all f =
      no_bad (number + length f.before) cols f.fields e (all_middle (IsGood cols) f.before f.after f.fields (subst (All (IsGood cols)) f.parts all)) f.bad

  good_row : (cols : ℕ) (row : List T) → All Gives row → length row ≡ cols → IsGood cols (map w row)
  good_row cols row all wide = record {
    reads = All-map (λ field. R field None → ⊥) w row (λ i d lt may. let g = all i d lt None may in absurd (cc (g.1)));
    wide = length-map row w ∙ wide;
  }

  width_is : (rows : List (List T)) → length (first_of (map (map w) rows)) ≡ length (row rows 0)
  width_is [] = refl
  width_is (r ∷ rows) = length-map r w

  good_rows : (rows : List (List T)) → IsTable rows → All (All Gives) rows → All (IsGood (length (first_of (map (map w) rows)))) (map (map w) rows)
  good_rows rows table all =
      All-map (IsGood (length (first_of (map (map w) rows)))) (map w) rows
      (λ i d lt. good_row _ (get_or rows i d) (all i d lt) (ap length (get_or_default rows i d [] lt) ∙ (table.even i lt ∙ sym (width_is rows))))

  module _ (rows : List (List T)) (table : IsTable rows) (all : All (All Gives) rows) (answer : Result (GridValue T) CsvError) (may : MayRead R 1 (length (first_of (map (map w) rows))) (map (map w) rows) answer) where
    pub back_ok : IfOk answer (λ g. AllZip (AllZip S) rows g.rows)
    back_ok = by_answer answer may
      where
        by_answer : (a : Result (GridValue T) CsvError) → MayRead R 1 (length (first_of (map (map w) rows))) (map (map w) rows) a → IfOk a (λ g. AllZip (AllZip S) rows g.rows)
        by_answer (Ok g) m = rows_back _ rows g.rows all m.0
        by_answer (Err e) m = tt

    pub back_err : IfErr answer (λ e. e ≡ Memory)
    back_err = by_answer answer may
      where
        by_answer : (a : Result (GridValue T) CsvError) → MayRead R 1 (length (first_of (map (map w) rows))) (map (map w) rows) a → IfErr a (λ e. e ≡ Memory)
        by_answer (Ok g) m = tt
        by_answer (Err e) (inl none) = none
        by_answer (Err e) (inr f) = absurd (no_fault 1 _ (map (map w) rows) e (good_rows rows table all) f)

-- the records of the text of a table
module _ {T : Type 0} (w : T → List ℕ) (rows : List (List T)) (table : IsTable rows) (marks : All (All (λ x. strip_bom (w x) ≡ w x)) rows) where
  no_mark : (rows : List (List T)) → All (All (λ x. strip_bom (w x) ≡ w x)) rows → (f : List ℕ) (fs : List (List ℕ)) → first_of (map (map w) rows) ≡ f ∷ fs → strip_bom f ≡ f
  no_mark [] marks f fs is = absurd (cc)
  no_mark ([] ∷ rows) marks f fs is = absurd (cc)
  no_mark ((x ∷ row) ∷ rows) marks f fs is =
      let same : w x ≡ f = cc in
      subst (λ y. strip_bom y ≡ y) same (marks 0 (x ∷ row) (omega arith) 0 x (omega arith))

  pub records_are : records_of (sheet_text (map (map w) rows)) ≡ map (map w) rows
  records_are =
      sheet_back (map (map w) rows) (All-map (λ fields. 0 < length fields) (map w) rows (λ i d lt. some i d lt)) (no_mark rows marks)
    where
      some : (i : ℕ) (d : List T) → i < length rows → 0 < length (map w (get_or rows i d))
      some i d lt =
          let wide : length (map w (get_or rows i d)) ≡ length (row rows i) = length-map (get_or rows i d) w ∙ ap length (get_or_default rows i d [] lt) in
          omega (arith, table.nonempty i lt)

-- rows of which each cell is read as itself, or as one of the same text
pub same_rows : {T : Type 0} (rows again : List (List T)) → AllZip (AllZip (λ x y. y ≡ x)) rows again → again ≡ rows
same_rows rows again all = each_same rows again (zip_more (AllZip (λ x y. y ≡ x)) (λ x y. y ≡ x) each_same rows again all)

same_maps : {A B : Type 0} (f : A → B) (xs ys : List A) → AllZip (λ x y. f y ≡ f x) xs ys → map f ys ≡ map f xs
same_maps f [] [] all = refl
same_maps f [] (y ∷ ys) all = absurd all
same_maps f (x ∷ xs) [] all = absurd all
same_maps f (x ∷ xs) (y ∷ ys) all = ap (λ z. z ∷ map f ys) all.0 ∙ ap (λ zs. f x ∷ zs) (same_maps f xs ys all.1)

pub same_texts : {T : Type 0} (w : T → List ℕ) (rows again : List (List T)) → AllZip (AllZip (λ x y. w y ≡ w x)) rows again → map (map w) again ≡ map (map w) rows
same_texts w rows again all = same_maps (map w) rows again (zip_more (AllZip (λ x y. w y ≡ w x)) (λ x y. map w y ≡ map w x) (same_maps w) rows again all)

-- a cell that is read back, of a text that is text
pub gives_back : {F T : Type 0} (w : T → List ℕ) (returns : F → Bor (List ℕ) → Result (Option T) AllocError → Type 0) (read : F) (S : T → T → Type 0) (x : T) → IsUtf8 (w x) → ReadsBack w returns read S x → (cell : Option T) → AnswersField returns read (w x) cell → (y : T) × (cell ≡ Some y) × S x y
gives_back w returns read S x utf8 back cell may =
    let is : is_utf8 (w x) ≡ true = is_utf8-from_IsUtf8 (w x) utf8 in
    let (text, now, gave) = rw is at may in
    back.reads text cell now gave

module _ {F G T Z : Type 0} (writes : F → Bor T → MutBor (String Z) → Result ⊤ AllocError → MutBor (String Z) → Type 0) (write : F) (returns : G → Bor (List ℕ) → Result (Option T) AllocError → Type 0) (read : G) (w : T → List ℕ) (by : WritesBy writes write w) (S : T → T → Type 0) (rows : List (List T)) (table : IsTable rows) (all : All (All (ReadsBack w returns read S)) rows) (text : List ℕ) (wrote : MayWrite (AnswersCell writes write) rows text) where
  -- the text of each cell is text
  cell_utf8 : (x : T) (field : List ℕ) → AnswersCell writes write x field → IsUtf8 (w x)
  cell_utf8 x field a = subst IsUtf8 (field_is writes write w by x field a) (field_utf8 writes write x field a)

  row_utf8 : (row : List T) (fields : List (List ℕ)) → AllZip (AnswersCell writes write) row fields → All (λ x. IsUtf8 (w x)) row
  row_utf8 row fields zip = zip_left (AnswersCell writes write) (λ x. IsUtf8 (w x)) cell_utf8 row fields zip

  gives : All (All (λ x. (cell : Option T) → AnswersField returns read (w x) cell → (y : T) × (cell ≡ Some y) × S x y)) rows
  gives = λ i d lt j x within.
      gives_back w returns read S (get_or (get_or rows i d) j x)
      (zip_left (AllZip (AnswersCell writes write)) (All (λ x. IsUtf8 (w x))) row_utf8 rows wrote.records wrote.are_fields i d lt j x within) (all i d lt j x within)

  records_read : records_of text ≡ map (map w) rows
  records_read =
      ap records_of (wrote.is_text ∙ ap sheet_text (lines_are (AnswersCell writes write) w (field_is writes write w by) rows wrote.records wrote.are_fields))
      ∙ records_are w rows table (λ i d lt j x within. (all i d lt j x within).no_mark)

  module _ (bytes : List ℕ) (is : bytes ≡ text) (answer : Result (GridValue T) CsvError) (may : MayRead (AnswersField returns read) 1 (length (first_of (records_of bytes))) (records_of bytes) answer) where
    of_rows : MayRead (AnswersField returns read) 1 (length (first_of (map (map w) rows))) (map (map w) rows) answer
    of_rows = subst (λ rs. MayRead (AnswersField returns read) 1 (length (first_of rs)) rs answer) (ap records_of is ∙ records_read) may

    pub read_ok : IfOk answer (λ g. AllZip (AllZip S) rows g.rows)
    read_ok = back_ok (AnswersField returns read) w S rows table gives answer of_rows

    pub read_err : IfErr answer (λ e. e ≡ Memory)
    read_err = back_err (AnswersField returns read) w S rows table gives answer of_rows
