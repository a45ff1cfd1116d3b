-- Which rows the records of CSV say, or why they say none.
use Rattle.std.specs.Prelude.{◌≡◌, ◌≢◌, ◌⊎◌, ◌+◌, ◌==◌, if◌then◌else◌, ℕ, Option, Some, None, List, [], ◌∷◌, ◌++◌, length, Result, Ok, Err, MatchResult, MatchBool}
use denote.Ref.{Bor}
use Rattle.std.specs.List.{AllZip}
use Rattle.std.specs.Str.{is_utf8}
use Rattle.std.specs.declared.alloc.AllocError.{AllocError}
use Rattle.csv.specs.Reading.{default_config, records, strip_bom}
use Rattle.grid_base.specs.declared.order.Order.TheVariants.{RowMajor}
use Rattle.grid_base.specs.GridValue.{GridValue}
use Rattle.grid_csv.specs.declared.error.CsvError.{CsvError}
use Rattle.grid_csv.specs.declared.error.CsvError.TheVariants.{BadField, Ragged, Memory}

-- the records of bytes, each a list of fields, without a byte order mark before them
abbrev pub records_of : List ℕ → List (List (List ℕ))
records_of bytes = records default_config (strip_bom bytes)

-- the fields of the first record, or none
abbrev pub first_of : List (List (List ℕ)) → List (List ℕ)
first_of [] = []
first_of (fields ∷ later) = fields

-- the records after the first
abbrev pub later_of : List (List (List ℕ)) → List (List (List ℕ))
later_of [] = []
later_of (fields ∷ later) = later

-- ---- by a function

-- whatever the closure answers at a text, h gives
abbrev pub ReadsBy : {F T : Type 0} → (F → Bor (List ℕ) → Result (Option T) AllocError → Type 0) → F
    → (List ℕ → Option T) → Type 0
ReadsBy {F} {T} returns read h = (text : Bor (List ℕ)) (cell : Option T)
    → returns read text (Ok cell) → cell ≡ h text.now

-- what was found before, in front of what is found after it
abbrev pub prepend : {X : Type 0} → X → Result (List X) CsvError → Result (List X) CsvError
prepend x (Ok later) = Ok (x ∷ later)
prepend x (Err e) = Err e

-- the cell of this field before those of the later ones, or the fault that it is none
abbrev pub cell_before : {T : Type 0} → ℕ → ℕ → Option T → Result (List T) CsvError
    → Result (List T) CsvError
cell_before number place None later = Err (BadField number place)
cell_before number place (Some cell) later = prepend cell later

-- the row of these cells before the later ones, if it has as many cells as it should
abbrev pub row_before : {T : Type 0} → ℕ → ℕ → Result (List T) CsvError
    → Result (List (List T)) CsvError → Result (List (List T)) CsvError
row_before number cols (Err e) later = Err e
row_before number cols (Ok row) later = if length row == cols then prepend row later
    else Err (Ragged number (length row) cols)

module _ {T : Type 0} (h : List ℕ → Option T) where
  -- the cell that h gives of a field; one that isn't text is none
  abbrev pub cell_of : List ℕ → Option T
  cell_of field = if is_utf8 field then h field else None

  -- the cells of a record's fields from this place on, or the fault of the first that is none
  abbrev pub read_fields : ℕ → ℕ → List (List ℕ) → Result (List T) CsvError
  read_fields number place [] = Ok []
  read_fields number place (field ∷ fields) = cell_before number place (cell_of field)
      (read_fields number (place + 1) fields)

  -- the rows of the records from this number on, each of cols cells, or the fault of the first that
  -- is none
  abbrev pub read_records : ℕ → ℕ → List (List (List ℕ)) → Result (List (List T)) CsvError
  read_records number cols [] = Ok []
  read_records number cols (fields ∷ later) = row_before number cols (read_fields number 1 fields)
      (read_records (number + 1) cols later)

  -- the rows of these records: each has as many cells as the first has fields
  abbrev pub reading : List (List (List ℕ)) → Result (List (List T)) CsvError
  reading records = read_records 1 (length (first_of records)) records

-- the names in a header: its fields, or the fault of the first that isn't text
abbrev pub read_header : List (List ℕ) → Result (List (List ℕ)) CsvError
read_header fields = read_fields Some 1 1 fields

-- what is read below a header, if the header was read
abbrev pub below_header : {X Y : Type 0} → Result X CsvError → Result Y CsvError → Result Y CsvError
below_header (Ok names) later = later
below_header (Err e) later = Err e

-- the rows of the records below the first: each has as many cells as the first has fields
abbrev pub reading_below : {T : Type 0} → (List ℕ → Option T) → List (List (List ℕ))
    → Result (List (List T)) CsvError
reading_below h records = below_header (read_header (first_of records))
    (read_records h 2 (length (first_of records)) (later_of records))

-- an answer without its header
abbrev pub without_header : {H T : Type 0} → Result (H × GridValue T) CsvError
    → Result (GridValue T) CsvError
without_header (Ok p) = Ok p.1
without_header (Err e) = Err e

-- the answer is the row-major grid that was read, or the fault; or allocation failed
abbrev pub IsOrMemory : {T : Type 0} → Result (List (List T)) CsvError → Result (GridValue T) CsvError
    → Type 0
IsOrMemory read answer = (answer ≡ Err Memory)
    ⊎ MatchResult answer (λ g. (read ≡ Ok g.rows) × (g.order ≡ RowMajor)) (λ e. read ≡ Err e)

-- ---- by what a closure may answer

-- the closure may answer so at a field; one that isn't text isn't a cell
abbrev pub AnswersField : {F T : Type 0}
    → (F → Bor (List ℕ) → Result (Option T) AllocError → Type 0) → F → List ℕ → Option T → Type 0
AnswersField returns read field cell = MatchBool (is_utf8 field)
    ((text : Bor (List ℕ)) × (text.now ≡ field) × returns read text (Ok cell)) (cell ≡ None)

-- where R says which answers a field may have
module _ {T : Type 0} (R : List ℕ → Option T → Type 0) where
  -- these cells may be read of these fields
  abbrev pub AreCells : List (List ℕ) → List T → Type 0
  AreCells fields cells = AllZip (λ field cell. R field (Some cell)) fields cells

  -- these rows of cols cells may be read of these records
  abbrev pub AreRows : ℕ → List (List (List ℕ)) → List (List T) → Type 0
  AreRows cols records rows = AllZip (λ fields row. AreCells fields row × (length row ≡ cols))
      records rows

  -- the first of these fields that may be no cell is at this place, counted from 1
  pub record IsBadAt (fields : List (List ℕ)) (place : ℕ) : Type 0 where
    pub before : List (List ℕ)
    pub field : List ℕ
    pub after : List (List ℕ)
    pub cells : List T
    pub parts : fields ≡ before ++ field ∷ after
    pub is_place : place ≡ length before + 1
    pub are_cells : AreCells before cells
    pub bad : R field None

  -- why the record of this number may be no row of cols cells
  abbrev pub IsBadRecord : ℕ → ℕ → List (List ℕ) → CsvError → Type 0
  IsBadRecord number cols fields (BadField r place) = (r ≡ number) × IsBadAt fields place
  IsBadRecord number cols fields (Ragged r len n) = (r ≡ number) × (len ≡ length fields)
      × (n ≡ cols) × (len ≢ cols) × ((cells : List T) × AreCells fields cells)
  IsBadRecord number cols fields Memory = ⊥

  -- the fault of the first of these records that may be no row of cols cells; the first of them has
  -- this number
  pub record IsFault (number cols : ℕ) (records : List (List (List ℕ)))
      (e : CsvError) : Type 0 where
    pub before : List (List (List ℕ))
    pub fields : List (List ℕ)
    pub after : List (List (List ℕ))
    pub rows : List (List T)
    pub parts : records ≡ before ++ fields ∷ after
    pub are_rows : AreRows cols before rows
    pub bad : IsBadRecord (number + length before) cols fields e

  -- the answer is the row-major grid of rows that may be read of these records, of which the first
  -- has this number, or the fault; or allocation failed
  abbrev pub MayRead : ℕ → ℕ → List (List (List ℕ)) → Result (GridValue T) CsvError → Type 0
  MayRead number cols records answer = MatchResult answer
      (λ g. AreRows cols records g.rows × (g.order ≡ RowMajor))
      (λ e. (e ≡ Memory) ⊎ IsFault number cols records e)

  -- the same of the records below the first, unless that is no header
  abbrev pub MayReadBelow : List (List (List ℕ)) → Result (GridValue T) CsvError → Type 0
  MayReadBelow records answer = (answer ≡ Err Memory)
      ⊎ MatchResult (read_header (first_of records))
      (λ names. MayRead 2 (length (first_of records)) (later_of records) answer)
      (λ e. answer ≡ Err e)
