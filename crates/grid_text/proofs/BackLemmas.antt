-- A text of lines is read as the rows that the lines write.
use Rattle.std.proofs.Common.{◌≡◌, ◌≢◌, ℕ, suc, ◌+◌, ◌-◌, ◌<◌, ◌==◌, false, Option, Some, Ok, List, [], ◌∷◌, ◌++◌, length, map, drop, get_or, All, bytes_eq, refl, sym, ap, ◌∙◌, arith, append_assoc, length-drop, flat_map, ne_eqb, get_or-drop}
use Rattle.grid_text.proofs.Common.{slice_split, eqb-false, false_from_ne_true, get_or_default, length-map, slice_split_at, bytes_eq-Decides, row, IsTable, without_return, without_empty_end, lines_of, cell_before, read_line, read_lines, row_before, rows_of, prepend, as_table, table_read}
use Rattle.grid_text.specs.declared.error.TextError.{TextError}
use Rattle.grid_text.proofs.ReadLemmas.{good_row}

-- a line keeps its end where no byte is a carriage return
kept_end : (line : List ℕ) → All (λ b. (b == 13) ≡ false) line → without_return line ≡ line
kept_end line none =
    let n : ℕ = length line - 1 in
    let differs : drop n line ≡ 13 ∷ [] → ⊥ = λ e.
    let one : length (drop n line) ≡ 1 = ap length e in
    let within : n < length line = omega (arith, one, length-drop n line) in
    let last : get_or line n 0 ≡ 13 = sym (get_or-drop n line 0 0 ∙ ap (λ k. get_or line k 0) (omega arith)) ∙ ap (λ xs. get_or xs 0 0) e in
    eqb-false (get_or line n 0) 13 (none n 0 within) last in
    let no : bytes_eq (drop n line) (13 ∷ []) ≡ false = false_from_ne_true (bytes_eq (drop n line) (13 ∷ [])) (λ e. differs ((bytes_eq-Decides (drop n line) (13 ∷ [])).0 e)) in
    rw no refl

-- a line without a line feed and a carriage return
pub record IsLine (line : List ℕ) : Type 0 where
  pub no_feed : All (λ b. (b == 10) ≡ false) line
  pub no_return : All (λ b. (b == 13) ≡ false) line

-- the lines of a text in which a line feed is after the line of each row
module _ {X : Type 0} (line_text : X → List ℕ) where
  parts_are : (rows : List X) → All (λ r. IsLine (line_text r)) rows → slice_split (λ b. b == 10) (flat_map (λ row. line_text row ++ 10 ∷ []) rows) ≡ map line_text rows ++ [] ∷ []
  parts_are [] all = refl
  parts_are (r ∷ rows) all =
      ap (slice_split (λ b. b == 10)) (append_assoc (line_text r) (10 ∷ []) (flat_map (λ row. line_text row ++ 10 ∷ []) rows))
      ∙ (slice_split_at (λ b. b == 10) (line_text r) 10 (flat_map (λ row. line_text row ++ 10 ∷ []) rows) (all 0 r (omega arith)).no_feed refl
      ∙ ap (λ ps. line_text r ∷ ps) (parts_are rows (λ i d lt. all (suc i) d (omega arith))))

  ends_are : (ps : List (List ℕ)) → without_empty_end (ps ++ [] ∷ []) ≡ ps
  ends_are [] = refl
  ends_are (p ∷ []) = refl
  ends_are (p ∷ q ∷ ps) = ap (λ xs. p ∷ xs) (ends_are (q ∷ ps))

  returns_are : (rows : List X) → All (λ r. IsLine (line_text r)) rows → map without_return (map line_text rows) ≡ map line_text rows
  returns_are [] all = refl
  returns_are (r ∷ rows) all =
      ap (λ l. l ∷ map without_return (map line_text rows)) (kept_end (line_text r) (all 0 r (omega arith)).no_return)
      ∙ ap (λ ls. line_text r ∷ ls) (returns_are rows (λ i d lt. all (suc i) d (omega arith)))

  pub lines_are : (rows : List X) → All (λ r. IsLine (line_text r)) rows → lines_of (flat_map (λ row. line_text row ++ 10 ∷ []) rows) ≡ map line_text rows
  unfolding lines_of
  lines_are rows all =
      ap (λ ps. map without_return (without_empty_end ps)) (parts_are rows all)
      ∙ (ap (map without_return) (ends_are (map line_text rows)) ∙ returns_are rows all)

module _ {A T : Type 0} (parts : List ℕ → List A) (bad : ℕ → ℕ → A → TextError) (w : T → A) (h : A → Option T) (line_text : List T → List ℕ) where
  -- the parts of the line of a row are those that its cells write, and h gives the cells back
  pub record IsWritten (row : List T) : Type 0 where
    pub line : IsLine (line_text row)
    pub parts_are : parts (line_text row) ≡ map w row
    pub reads : All (λ x. h (w x) ≡ Some x) row

  read_line_is : (line place : ℕ) (row : List T) → All (λ x. h (w x) ≡ Some x) row → read_line bad h line place (map w row) ≡ Ok row
  read_line_is line place [] all = refl
  read_line_is line place (x ∷ row) all =
      ap (λ o. cell_before bad line place (w x) o (read_line bad h line (place + 1) (map w row))) (all 0 x (omega arith))
      ∙ ap (prepend (x ∷ [])) (read_line_is line (place + 1) row (λ i d lt. all (suc i) d (omega arith)))

  line_is : (line : ℕ) (row : List T) → IsWritten row → read_line bad h line 1 (parts (line_text row)) ≡ Ok row
  line_is line row i = ap (read_line bad h line 1) i.parts_are ∙ read_line_is line 1 row i.reads

  read_lines_are : (line cols : ℕ) (rows : List (List T)) → All IsWritten rows → All (λ r. length r ≡ cols) rows → read_lines parts bad h line cols (map line_text rows) ≡ Ok rows
  read_lines_are line cols [] all even = refl
  read_lines_are line cols (r ∷ rows) all even =
      let later = read_lines parts bad h (line + 1) cols (map line_text rows) in
      ap (λ x. row_before line cols x later) (line_is line r (all 0 r (omega arith)))
      ∙ (good_row line cols r later (even 0 r (omega arith))
      ∙ ap (prepend (r ∷ [])) (read_lines_are (line + 1) cols rows (λ i d lt. all (suc i) d (omega arith)) (λ i d lt. even (suc i) d (omega arith))))

  rows_are : (rows : List (List T)) → All IsWritten rows → IsTable rows → rows_of parts bad h (map line_text rows) ≡ Ok rows
  rows_are [] all table = refl
  rows_are (r ∷ rows) all table =
      let mine : IsWritten r = all 0 r (omega arith) in
      let width : length (parts (line_text r)) ≡ length r = ap length mine.parts_are ∙ length-map r w in
      ap (λ n. read_lines parts bad h 1 n (map line_text (r ∷ rows))) width
      ∙ read_lines_are 1 (length r) (r ∷ rows) all (λ k d lt. ap length (get_or_default (r ∷ rows) k d [] lt) ∙ table.even k lt)

  as_table_is : (rows : List (List T)) → IsTable rows → as_table (Ok rows) ≡ Ok rows
  as_table_is [] table = refl
  as_table_is (r ∷ rows) table =
      let some : length r ≢ 0 = λ e. absurd (omega (arith, table.nonempty 0 (omega arith))) in
      let test : (length r == 0) ≡ false = ne_eqb (length r) 0 some in
      rw test refl

  -- the table that is read from the text of a table
  pub table_back : (rows : List (List T)) → All IsWritten rows → IsTable rows → table_read parts bad h (lines_of (flat_map (λ row. line_text row ++ 10 ∷ []) rows)) ≡ Ok rows
  table_back rows all table =
      ap (table_read parts bad h) (lines_are line_text rows (λ i d lt. (all i d lt).line))
      ∙ (ap as_table (rows_are rows all table) ∙ as_table_is rows table)
