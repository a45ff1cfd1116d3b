-- What may be read of a text, and what is read of the text of a table.
use Rattle.std.proofs.Common.{◌≡◌, inl, inr, ℕ, ◌+◌, Result, Ok, Err, Option, Some, None, List, [], ◌∷◌, length, IfOk, IfErr, sym, ap, ◌∙◌}
use Rattle.grid_text.proofs.Common.{GridValue, prepend, cell_before, read_line, row_before, read_lines, rows_of, table_read, as_table, IsOrMemory, MayReadLine, MayReadRow, MayReadLines, MayReadRows, MayReadOrMemory, MayReadAs}
use Rattle.grid_text.specs.declared.error.TextError.{TextError}
use Rattle.grid_text.specs.declared.error.TextError.TheVariants.{Memory}
use Rattle.grid_text.proofs.ReadLemmas.{good_row, ragged_row}

-- where h gives each answer, what may be read is what h reads
module _ {A T : Type 0} (parts : List ℕ → List A) (bad : ℕ → ℕ → A → TextError) (R : A → Option T → Type 0) (h : A → Option T) (said : (x : A) (cell : Option T) → R x cell → cell ≡ h x) where
  line_read : (line place : ℕ) (xs : List A) (read : Result (List T) TextError) → MayReadLine bad R line place xs read → read_line bad h line place xs ≡ read
  line_read line place [] read m = sym m
  line_read line place (x ∷ xs) read (inl m) = ap (λ o. cell_before bad line place x o (read_line bad h line (place + 1) xs)) (sym (said x None m.0)) ∙ sym m.1
  line_read line place (x ∷ xs) read (inr m) =
      ap (λ o. cell_before bad line place x o (read_line bad h line (place + 1) xs)) (sym (said x (Some m.0) m.2))
      ∙ (ap (prepend (m.0 ∷ [])) (line_read line (place + 1) xs m.1 m.3) ∙ sym m.4)

  row_read : (line cols : ℕ) (row : Result (List T) TextError) (P : Result (List (List T)) TextError → Type 0) (later : Result (List (List T)) TextError) → ((read : Result (List (List T)) TextError) → P read → later ≡ read) → (read : Result (List (List T)) TextError) → MayReadRow line cols row P read → row_before line cols row later ≡ read
  row_read line cols (Err e) P later f read m = sym m
  row_read line cols (Ok row) P later f read (inl m) = good_row line cols row later m.0 ∙ (ap (prepend (row ∷ [])) (f m.1.0 m.1.1) ∙ sym m.1.2)
  row_read line cols (Ok row) P later f read (inr m) = ragged_row line cols row later m.0 ∙ sym m.1

  lines_read : (line cols : ℕ) (texts : List (List ℕ)) (read : Result (List (List T)) TextError) → MayReadLines parts bad R line cols texts read → read_lines parts bad h line cols texts ≡ read
  lines_read line cols [] read m = sym m
  lines_read line cols (text ∷ texts) read m =
      ap (λ row. row_before line cols row (read_lines parts bad h (line + 1) cols texts)) (line_read line 1 (parts text) m.0 m.1)
      ∙ row_read line cols m.0 (MayReadLines parts bad R (line + 1) cols texts) (read_lines parts bad h (line + 1) cols texts) (lines_read (line + 1) cols texts) read m.2

  rows_read : (texts : List (List ℕ)) (read : Result (List (List T)) TextError) → MayReadRows parts bad R texts read → rows_of parts bad h texts ≡ read
  rows_read [] read m = sym m
  rows_read (text ∷ texts) read m = lines_read 1 (length (parts text)) (text ∷ texts) read m

  pub is_read : (texts : List (List ℕ)) (answer : Result (GridValue T) TextError) → MayReadAs parts bad R texts answer → IsOrMemory (table_read parts bad h texts) answer
  is_read texts (Ok g) m = inr (ap as_table (rows_read texts (Ok m.read.1.0) m.read.1.1) ∙ ap Ok (sym m.read.1.2), m.read.0)
  is_read texts (Err e) m = elim m.read [ inl none ↦ inl (ap Err none) | inr f ↦ inr (ap as_table (rows_read texts (Err e) f)) ]

-- what may be read by fewer answers may be read by more
module _ {A T : Type 0} (parts : List ℕ → List A) (bad : ℕ → ℕ → A → TextError) (R S : A → Option T → Type 0) (more : (x : A) (cell : Option T) → R x cell → S x cell) where
  more_line : (line place : ℕ) (xs : List A) (read : Result (List T) TextError) → MayReadLine bad R line place xs read → MayReadLine bad S line place xs read
  more_line line place [] read m = m
  more_line line place (x ∷ xs) read (inl m) = inl (more x None m.0, m.1)
  more_line line place (x ∷ xs) read (inr m) = inr (m.0, m.1, more x (Some m.0) m.2, more_line line (place + 1) xs m.1 m.3, m.4)

  more_row : (line cols : ℕ) (row : Result (List T) TextError) (P Q : Result (List (List T)) TextError → Type 0) → ((later : Result (List (List T)) TextError) → P later → Q later) → (read : Result (List (List T)) TextError) → MayReadRow line cols row P read → MayReadRow line cols row Q read
  more_row line cols (Err e) P Q f read m = m
  more_row line cols (Ok row) P Q f read (inl m) = inl (m.0, (m.1.0, f m.1.0 m.1.1, m.1.2))
  more_row line cols (Ok row) P Q f read (inr m) = inr m

  more_lines : (line cols : ℕ) (texts : List (List ℕ)) (read : Result (List (List T)) TextError) → MayReadLines parts bad R line cols texts read → MayReadLines parts bad S line cols texts read
  more_lines line cols [] read m = m
  more_lines line cols (text ∷ texts) read m =
      (m.0, more_line line 1 (parts text) m.0 m.1, more_row line cols m.0 (MayReadLines parts bad R (line + 1) cols texts) (MayReadLines parts bad S (line + 1) cols texts) (more_lines (line + 1) cols texts) read m.2)

  more_rows : (texts : List (List ℕ)) (read : Result (List (List T)) TextError) → MayReadRows parts bad R texts read → MayReadRows parts bad S texts read
  more_rows [] read m = m
  more_rows (text ∷ texts) read m = more_lines 1 (length (parts text)) (text ∷ texts) read m

  more_or_memory : (texts : List (List ℕ)) (answer : Result (GridValue T) TextError) → MayReadOrMemory parts bad R texts answer → MayReadOrMemory parts bad S texts answer
  more_or_memory texts (Ok g) m = (m.0, (m.1.0, more_rows texts (Ok m.1.0) m.1.1, m.1.2))
  more_or_memory texts (Err e) (inl none) = inl none
  more_or_memory texts (Err e) (inr m) = inr (more_rows texts (Err e) m)

pub fewer_read : {A T : Type 0} (parts : List ℕ → List A) (bad : ℕ → ℕ → A → TextError) (R S : A → Option T → Type 0) (texts : List (List ℕ)) (answer : Result (GridValue T) TextError) → MayReadAs parts bad R texts answer → ((x : A) (cell : Option T) → R x cell → S x cell) → MayReadAs parts bad S texts answer
fewer_read parts bad R S texts answer m more = record { read = more_or_memory parts bad R S more texts answer m.read }

-- what is read of the text of a table is the table, unless allocation failed
module _ {T : Type 0} (rows : List (List T)) (read : Result (List (List T)) TextError) (due : read ≡ Ok rows) where
  pub back_ok : (r : Result (GridValue T) TextError) → IsOrMemory read r → IfOk r (λ g. g.rows ≡ rows)
  back_ok (Ok g) answer = elim answer [ inl e ↦ absurd (cc) | inr f ↦ let both : Ok rows ≡ Ok g.rows = sym due ∙ f.0 in cc ]
  back_ok (Err e) answer = tt

  pub back_err : (r : Result (GridValue T) TextError) → IsOrMemory read r → IfErr r (λ e. e ≡ Memory)
  back_err (Ok g) answer = tt
  back_err (Err e) answer = elim answer [ inl m ↦ cc | inr f ↦ let both : Ok rows ≡ Err e = sym due ∙ f in absurd (cc) ]
