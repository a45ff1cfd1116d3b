-- What is left to read, what was read, and what was written. No public clause cites this module.
use Rattle.std.specs.Prelude.{◌≡◌, ◌⊎◌, ◌+◌, ◌<◌, ℕ, true, false, Option, Vec, List, ◌∷◌, ◌++◌, length, Some, unwrap_or}
use denote.Ref.{Bor}
use Rattle.csv.specs.declared.parser.State.{State}
use Rattle.csv.specs.declared.reader.Reader.{Reader}
use Rattle.csv.specs.declared.reader.Trim.TheVariants as trim
use Rattle.csv.specs.Reading.{Ready, default_config, is_flexible, reader_config, reader_state, reader_trim, records_from, source_of}
use Rattle.csv.specs.declared.writer.Writer.{Writer}
use Rattle.csv.specs.Writing.{default_writer, fields_written, has_written, writer_pending, writer_setup, writer_under}
use Rattle.std.specs.declared.alloc.Global.{Global}
use Rattle.grid_rows.specs.Rows.{RowsValue}
use Rattle.grid_rows.specs.Builder.{with_cells}
use Rattle.grid_csv.specs.Reading.{AreCells, IsBadAt, first_of}
use Rattle.grid_csv.specs.declared.error.CsvError.{CsvError}
use Rattle.grid_csv.specs.declared.error.CsvError.TheVariants.{BadField, Memory}

-- the records of bytes from a state on
abbrev pub records_at : State → List ℕ → List (List (List ℕ))
records_at state bytes = records_from default_config (length bytes + 1) state bytes

-- a reader of records of any lengths, none of which is a header, has these left
pub record HasLeft (reader : Reader (Bor (List ℕ))) (left : List (List (List ℕ))) : Type 0 where
  pub trims : reader_trim reader ≡ trim.None
  pub ready : Ready reader
  pub config : reader_config reader ≡ default_config
  pub flexible : is_flexible reader ≡ true
  pub rest : List ℕ
  pub source : source_of (λ s. Some s.now) reader ≡ Some rest
  pub is_left : left ≡ records_at (reader_state reader) rest

-- the first record of those that were left was taken, and has a field
pub record Took (left : List (List (List ℕ))) (fields : List (List ℕ))
    (reader : Reader (Bor (List ℕ))) : Type 0 where
  pub later : List (List (List ℕ))
  pub first : left ≡ fields ∷ later
  pub some : 0 < length fields
  pub leaves : HasLeft reader later

-- how many cells each row has to have: so many, or as many as the first record has fields
abbrev pub width_of : Option ℕ → List (List (List ℕ)) → ℕ
width_of cols records = unwrap_or cols (length (first_of records))

module _ {T : Type 0} (R : List ℕ → Option T → Type 0) where
  -- the cells of these fields are added to the open row
  pub record AddsCells (fields : List (List ℕ)) (old new : RowsValue T) : Type 0 where
    pub row : List T
    pub put : new ≡ with_cells old row
    pub are_cells : AreCells R fields row

  -- allocation failed, or a field of the record of this index may be no cell
  abbrev pub IsMemoryOrBad : ℕ → List (List ℕ) → CsvError → Type 0
  IsMemoryOrBad number fields e = (e ≡ Memory)
      ⊎ ((place : ℕ) × (e ≡ BadField number place) × IsBadAt R fields place)

-- a writer with the defaults, between two records, that has written these bytes
pub record HasWritten (writer : Writer (Vec ℕ Global)) (bytes : List ℕ) : Type 0 where
  pub setup : writer_setup writer ≡ default_writer
  pub no_fields : fields_written writer ≡ 0
  pub no_bytes : has_written writer ≡ false
  pub is_written : (writer_under writer).items ++ writer_pending writer ≡ bytes
