-- Which rows a text says, or why it says none.
use Rattle.std.specs.Prelude.{◌≡◌, ◌≢◌, ◌⊎◌, ◌+◌, ◌==◌, if◌then◌else◌, ℕ, Option, Some, None, List, [], ◌∷◌, ◌++◌, length, Result, Ok, Err, MatchResult, chars}
use Rattle.grid.specs.Prelude.{GridValue, equal_rows}
use Rattle.grid_rows.specs.Rows.{RowsValue}
use Rattle.grid_rows.specs.Builder.{with_cells}
use denote.Ref.{Bor}
use Rattle.std.specs.Char.{IsScalar}
use Rattle.std.specs.declared.alloc.AllocError.{AllocError}
use Rattle.text_lines.specs.Lines.{words_of}
use Rattle.grid_base.specs.declared.order.Order.TheVariants.{RowMajor}
use Rattle.grid_text.specs.declared.error.TextError.{TextError}
use Rattle.grid_text.specs.declared.error.TextError.TheVariants.{BadChar, BadWord, Ragged, Memory}

-- whatever the closure answers at a character, h gives
abbrev pub ReadsBy : {F T : Type 0} → (F → ℕ → Option T → Type 0) → F → (ℕ → Option T) → Type 0
ReadsBy {F} {T} returns read h = (c : ℕ) (cell : Option T) → IsScalar c → returns read c cell
    → cell ≡ h c

-- the closure may answer so at a character
abbrev pub AnswersChar : {F T : Type 0} → (F → ℕ → Option T → Type 0) → F → ℕ → Option T → Type 0
AnswersChar returns read c cell = IsScalar c × returns read c cell

-- whatever the closure answers at a word, h gives
abbrev pub ReadsWordsBy : {F T : Type 0} → (F → Bor (List ℕ) → Option T → Type 0) → F
    → (List ℕ → Option T) → Type 0
ReadsWordsBy {F} {T} returns read h = (word : Bor (List ℕ)) (cell : Option T)
    → returns read word cell → cell ≡ h word.now

-- the closure may answer so at a word
abbrev pub AnswersWord : {F T : Type 0} → (F → Bor (List ℕ) → Option T → Type 0) → F → List ℕ
    → Option T → Type 0
AnswersWord returns read word cell = (p : Bor (List ℕ)) × (p.now ≡ word) × returns read p cell

-- the same of a closure that may fail for memory
abbrev pub TriesWordsBy : {F T : Type 0}
    → (F → Bor (List ℕ) → Result (Option T) AllocError → Type 0) → F → (List ℕ → Option T) → Type 0
TriesWordsBy returns = ReadsWordsBy (λ f word cell. returns f word (Ok cell))

abbrev pub TriesWord : {F T : Type 0}
    → (F → Bor (List ℕ) → Result (Option T) AllocError → Type 0) → F → List ℕ → Option T → Type 0
TriesWord returns = AnswersWord (λ f word cell. returns f word (Ok cell))

-- what was found before, in front of what is found after it
abbrev pub prepend : {X E : Type 0} → List X → Result (List X) E → Result (List X) E
prepend xs (Ok ys) = Ok (xs ++ ys)
prepend xs (Err e) = Err e

-- the cell of a character or a word before those of the later ones, or the fault of the first bad one
abbrev pub cell_before : {A T : Type 0} → (ℕ → ℕ → A → TextError) → ℕ → ℕ → A → Option T
    → Result (List T) TextError → Result (List T) TextError
cell_before bad line place x None later = Err (bad line place x)
cell_before bad line place x (Some cell) later = prepend (cell ∷ []) later

module _ {T : Type 0} where
  -- the row of these cells before the later ones, if it has as many cells as it should
  abbrev pub row_before : ℕ → ℕ → Result (List T) TextError → Result (List (List T)) TextError
      → Result (List (List T)) TextError
  row_before line cols (Err e) later = Err e
  row_before line cols (Ok row) later = if length row == cols then prepend (row ∷ []) later
      else Err (Ragged line (length row) cols)

  -- rows of one length as a table
  abbrev pub as_table : Result (List (List T)) TextError → Result (List (List T)) TextError
  as_table (Ok rows) = Ok (equal_rows rows)
  as_table (Err e) = Err e

-- the cells of the characters or words of a line from this place on, or the fault of the first that
-- is none
module _ {A T : Type 0} (bad : ℕ → ℕ → A → TextError) (h : A → Option T) where
  abbrev pub read_line : ℕ → ℕ → List A → Result (List T) TextError
  read_line line place [] = Ok []
  read_line line place (x ∷ xs) = cell_before bad line place x (h x) (read_line line (place + 1) xs)

-- where a line has these parts, its characters or its words
module _ {A T : Type 0} (parts : List ℕ → List A) (bad : ℕ → ℕ → A → TextError) (h : A → Option T) where
  -- the rows of the lines from this number on, each of cols cells, or the fault of the first that
  -- is none
  abbrev pub read_lines : ℕ → ℕ → List (List ℕ) → Result (List (List T)) TextError
  read_lines line cols [] = Ok []
  read_lines line cols (text ∷ texts) = row_before line cols (read_line bad h line 1 (parts text))
      (read_lines (line + 1) cols texts)

  -- the rows of these lines: each has as many cells as the first line has parts
  abbrev pub rows_of : List (List ℕ) → Result (List (List T)) TextError
  rows_of [] = Ok []
  rows_of (text ∷ texts) = read_lines 1 (length (parts text)) (text ∷ texts)

  -- the table of these lines
  abbrev pub table_read : List (List ℕ) → Result (List (List T)) TextError
  table_read lines = as_table (rows_of lines)

-- the fault of a character, or of a word, that isn't a cell
abbrev pub bad_char : ℕ → ℕ → ℕ → TextError
bad_char line column c = BadChar line column c

abbrev pub bad_word : ℕ → ℕ → List ℕ → TextError
bad_word line place word = BadWord line place

-- the table of these lines, a cell for each character, or for each word
abbrev pub reading : {T : Type 0} → (ℕ → Option T) → List (List ℕ)
    → Result (List (List T)) TextError
reading h lines = table_read chars bad_char h lines

abbrev pub reading_words : {T : Type 0} → (List ℕ → Option T) → List (List ℕ)
    → Result (List (List T)) TextError
reading_words h lines = table_read words_of bad_word h lines

-- the answer is the row-major grid that was read, or the fault; or allocation failed
abbrev pub IsOrMemory : {T : Type 0} → Result (List (List T)) TextError
    → Result (GridValue T) TextError → Type 0
IsOrMemory read answer = (answer ≡ Err Memory)
    ⊎ MatchResult answer (λ g. (read ≡ Ok g.rows) × (g.order ≡ RowMajor)) (λ e. read ≡ Err e)

-- where R says which answers a part may have: what may be read of the parts of a line from this place
-- on, up to the first that may be no cell
module _ {A T : Type 0} (bad : ℕ → ℕ → A → TextError) (R : A → Option T → Type 0) where
  abbrev pub MayReadLine : ℕ → ℕ → List A → Result (List T) TextError → Type 0
  MayReadLine line place [] read = read ≡ Ok []
  MayReadLine line place (x ∷ xs) read = (R x None × (read ≡ Err (bad line place x)))
      ⊎ ((cell : T) × (later : Result (List T) TextError) × R x (Some cell)
      × MayReadLine line (place + 1) xs later × (read ≡ prepend (cell ∷ []) later))

-- what may be read of a row and of the later lines, of which Later says what may be read
abbrev pub MayReadRow : {T : Type 0} → ℕ → ℕ → Result (List T) TextError
    → (Result (List (List T)) TextError → Type 0) → Result (List (List T)) TextError → Type 0
MayReadRow line cols (Err e) Later read = read ≡ Err e
MayReadRow {T} line cols (Ok row) Later read =
    ((length row ≡ cols) × ((later : Result (List (List T)) TextError) × Later later
    × (read ≡ prepend (row ∷ []) later)))
    ⊎ ((length row ≢ cols) × (read ≡ Err (Ragged line (length row) cols)))

module _ {A T : Type 0} (parts : List ℕ → List A) (bad : ℕ → ℕ → A → TextError)
    (R : A → Option T → Type 0) where
  -- of the lines from this number on, each of cols cells
  abbrev pub MayReadLines : ℕ → ℕ → List (List ℕ) → Result (List (List T)) TextError → Type 0
  MayReadLines line cols [] read = read ≡ Ok []
  MayReadLines line cols (text ∷ texts) read = (row : Result (List T) TextError)
      × MayReadLine bad R line 1 (parts text) row
      × MayReadRow line cols row (MayReadLines (line + 1) cols texts) read

  -- of these lines: each has as many cells as the first line has parts
  abbrev pub MayReadRows : List (List ℕ) → Result (List (List T)) TextError → Type 0
  MayReadRows [] read = read ≡ Ok []
  MayReadRows (text ∷ texts) read = MayReadLines 1 (length (parts text)) (text ∷ texts) read

  -- the answer is the row-major grid that may be read of these lines, or the fault; or allocation
  -- failed
  abbrev pub MayReadOrMemory : List (List ℕ) → Result (GridValue T) TextError → Type 0
  MayReadOrMemory lines answer = MatchResult answer
      (λ g. (g.order ≡ RowMajor) × ((rows : List (List T)) × MayReadRows lines (Ok rows)
      × (g.rows ≡ equal_rows rows)))
      (λ e. (e ≡ Memory) ⊎ MayReadRows lines (Err e))

  pub record MayReadAs (lines : List (List ℕ)) (answer : Result (GridValue T) TextError) : Type 0 where
    pub read : MayReadOrMemory lines answer

-- how a line is cut into parts, the fault of a part, and what may be answered of a part
pub record Cutting (T : Type 0) : Type 1 where
  pub Part : Type 0
  pub parts : List ℕ → List Part
  pub bad : ℕ → ℕ → Part → TextError
  pub answers : Part → Option T → Type 0

abbrev pub by_chars : {T : Type 0} → (ℕ → Option T → Type 0) → Cutting T
by_chars R = record { Part = ℕ; parts = chars; bad = bad_char; answers = R }

abbrev pub by_words : {T : Type 0} → (List ℕ → Option T → Type 0) → Cutting T
by_words R = record { Part = List ℕ; parts = words_of; bad = bad_word; answers = R }

-- what was added to the open row for one line: as many cells as its parts, those that R lets them be;
-- or the fault of the first that is none; or allocation failed
module _ {A T : Type 0} (parts : List ℕ → List A) (bad : ℕ → ℕ → A → TextError)
    (R : A → Option T → Type 0) where
  pub record IsRow (line : ℕ) (text : List ℕ) (old new : RowsValue T) : Type 0 where
    pub row : List T
    pub put : new ≡ with_cells old row
    pub counts : length row ≡ length (parts text)
    pub may : MayReadLine bad R line 1 (parts text) (Ok row)

  abbrev pub IsBadRow : ℕ → List ℕ → TextError → Type 0
  IsBadRow line text e = (e ≡ Memory) ⊎ MayReadLine bad R line 1 (parts text) (Err e)
