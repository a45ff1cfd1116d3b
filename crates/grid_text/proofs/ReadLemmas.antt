-- The rows of the lines of a text, line by line.
use Rattle.std.proofs.Common.{◌≡◌, ◌≢◌, ◌⊎◌, inl, inr, ℕ, ◌+◌, ◌<◌, ◌≤◌, ◌==◌, true, false, Option, None, Result, Ok, Err, List, [], ◌∷◌, length, refl, subst, sym, ap, ◌∙◌, arith, append-nil, length-drop, eq-eqb, ne_eqb}
use Rattle.grid_text.proofs.Common.{position_or_len, nil_from_length, first_line, later_lines, lines_of, prepend, row_before, IsRow, IsBadRow, MayReadLine, MayReadRow, MayReadLines, MayReadRows, lines-first, lines-none}
use Rattle.grid_commands.specs.declared.error.ShapeError.TheVariants.{Ragged as RaggedRow}
use Rattle.grid_rows.specs.Rows.{RowsValue}
use Rattle.grid_rows.specs.Builder.{FitsCols, RowFault, with_row}
use Rattle.grid_rows.proofs.ReadingLemmas.{IsBetween, row_fits, between_more, rows_more, ragged_is}
use Rattle.grid_text.specs.declared.error.TextError.{TextError}
use Rattle.grid_text.specs.declared.error.TextError.TheVariants.{Ragged, Memory}
use Rattle.grid_text.proofs.LineLemmas.{prepend-nil, prepend-prepend}

-- what follows the first line is shorter
pub later_is_shorter : (text : List ℕ) → 0 < length text → length (later_lines text) + 1 ≤ length text
later_is_shorter text some = omega (arith, some, length-drop (position_or_len (λ byte. byte == 10) text + 1) text)

pub lines-next : (text : List ℕ) → 0 < length text → lines_of text ≡ first_line text ∷ lines_of (later_lines text)
lines-next [] some = absurd (omega arith)
lines-next (byte ∷ text) some = lines-first byte text

module _ {T : Type 0} where
  pub good_row : (line cols : ℕ) (row : List T) (later : Result (List (List T)) TextError) → length row ≡ cols → row_before line cols (Ok row) later ≡ prepend (row ∷ []) later
  good_row line cols row later e =
      let test : (length row == cols) ≡ true = eq-eqb (length row) cols e in
      rw test refl

  pub ragged_row : (line cols : ℕ) (row : List T) (later : Result (List (List T)) TextError) → length row ≢ cols → row_before line cols (Ok row) later ≡ Err (Ragged line (length row) cols)
  ragged_row line cols row later ne =
      let test : (length row == cols) ≡ false = ne_eqb (length row) cols ne in
      rw test refl

-- the number of parts of the first line
abbrev pub first_width : {A : Type 0} → (List ℕ → List A) → List (List ℕ) → ℕ
first_width parts [] = 0
first_width parts (text ∷ texts) = length (parts text)

module _ {A T : Type 0} (parts : List ℕ → List A) (bad : ℕ → ℕ → A → TextError) (R : A → Option T → Type 0) where
  from_first : (texts : List (List ℕ)) (read : Result (List (List T)) TextError) → MayReadLines parts bad R 1 (first_width parts texts) texts read → MayReadRows parts bad R texts read
  from_first [] read m = m
  from_first (text ∷ texts) read m = m

  module _ (text : List ℕ) where
    abbrev width : ℕ
    width = first_width parts (lines_of text)

    -- the rows of the first lines, `line` of them, of a text of which `rest` is left
    pub record LinesSoFar (rest : List ℕ) (b : RowsValue T) (line : ℕ) : Type 0 where
      pub between : IsBetween width b
      pub begun : b.cols ≡ None → rest ≡ text
      pub fits : line + length rest ≤ length text
      pub may : (later : Result (List (List T)) TextError) → MayReadLines parts bad R (line + 1) width (lines_of rest) later → MayReadRows parts bad R (lines_of text) (prepend b.rows later)

    pub lines_start : (b : RowsValue T) → b ≡ record { cols = None; rows = []; cells = [] } → LinesSoFar text b 0
    lines_start b is =
        rw is (record {
          between = record { none_open = refl; wide = λ cols known. absurd (cc) };
          begun = λ none. refl;
          fits = omega arith;
          may = λ later m. subst (MayReadRows parts bad R (lines_of text)) (sym (prepend-nil later)) (from_first (lines_of text) later m);
        })

    module _ (rest : List ℕ) (b : RowsValue T) (line : ℕ) (i : LinesSoFar rest b line) where
      pub lines_end : length rest ≡ 0 → MayReadRows parts bad R (lines_of text) (Ok b.rows)
      lines_end none =
          let no_lines : lines_of rest ≡ [] = ap lines_of (nil_from_length rest none) ∙ lines-none in
          subst (MayReadRows parts bad R (lines_of text)) (ap Ok (append-nil b.rows)) (i.may (Ok []) (subst (λ lines. MayReadLines parts bad R (line + 1) width lines (Ok [])) (sym no_lines) refl))

      module _ (some : 0 < length rest) (line_text : List ℕ) (is : line_text ≡ first_line rest) where
        may_here : (read : Result (List (List T)) TextError) (row : Result (List T) TextError) → MayReadLine bad R (line + 1) 1 (parts line_text) row → MayReadRow (line + 1) width row (MayReadLines parts bad R (line + 1 + 1) width (lines_of (later_lines rest))) read → MayReadRows parts bad R (lines_of text) (prepend b.rows read)
        may_here read row line_may row_may =
            i.may read (subst (λ lines. MayReadLines parts bad R (line + 1) width lines read) (sym (lines-next rest some)) (row, subst (λ x. MayReadLine bad R (line + 1) 1 (parts x) row) is line_may, row_may))

        -- the next line is none
        pub lines_bad : (fault : TextError) → IsBadRow parts bad R (line + 1) line_text fault → (fault ≡ Memory) ⊎ MayReadRows parts bad R (lines_of text) (Err fault)
        lines_bad fault no_row = elim no_row [ inl e ↦ inl e | inr f ↦ inr (may_here (Err fault) (Err fault) f refl) ]

        module _ (pushed : RowsValue T) (row : IsRow parts bad R (line + 1) line_text b pushed) where
          -- the next line is a row of another width
          pub lines_ragged : (number len cols : ℕ) → RowFault pushed (RaggedRow number len cols) → MayReadRows parts bad R (lines_of text) (Err (Ragged (line + 1) len cols))
          lines_ragged number len cols fault =
              let p = ragged_is width b pushed i.between row.row row.put number len cols fault in
              rw (p.0, p.1) (may_here (Err (Ragged (line + 1) (length row.row) width)) (Ok row.row) row.may (inr (λ same. p.2 (p.0 ∙ (same ∙ sym p.1)), refl)))

          -- the next line is a row
          pub lines_more : (later : List ℕ) → later ≡ later_lines rest → (ended : RowsValue T) → FitsCols pushed.cols (length pushed.cells) × (ended ≡ with_row pushed) → LinesSoFar later ended (line + 1)
          lines_more later follows ended (fits, is_ended) =
              let r : List T = row.row in
              let is_wide : length r ≡ width =
              row_fits width b pushed i.between r row.put
              (λ none. row.counts ∙ (ap (λ x. length (parts x)) is ∙ (sym (ap (first_width parts) (lines-next rest some)) ∙ ap (λ x. first_width parts (lines_of x)) (i.begun none))))
              fits in
              rw is_ended (record {
                between = between_more width b pushed i.between r row.put is_wide;
                begun = λ none. absurd (cc);
                fits = omega (arith, i.fits, later_is_shorter rest some, ap length follows);
                may = λ read m.
                    subst (λ rows. MayReadRows parts bad R (lines_of text) (prepend rows read)) (sym (rows_more width b pushed i.between r row.put))
                    (subst (MayReadRows parts bad R (lines_of text)) (prepend-prepend b.rows (r ∷ []) read)
                    (may_here (prepend (r ∷ []) read) (Ok r) row.may (inl (is_wide, (read, subst (λ x. MayReadLines parts bad R (line + 1 + 1) width (lines_of x) read) follows m, refl)))));
              })
