-- The header of a picture.
use Rattle.std.specs.Prelude.{◌==◌, ◌||◌, ◌+◌, ◌-◌, ℕ, Bool, true, false, nat_lt, if◌then◌else◌, Option, Some, None, List, [], ◌∷◌, length, take, drop, bytes_eq, codes, Result, Ok, Err}
use Rattle.grid_pnm.specs.declared.error.PnmError.{PnmError}
use Rattle.grid_pnm.specs.declared.error.PnmError.TheVariants.{BadMagic, BadMax, NoSpace}
use Rattle.grid_pnm.specs.declared.head.Format.{Format}
use Rattle.grid_pnm.specs.declared.head.Header.{Header}
use Rattle.grid_pnm.specs.declared.head.Numbers.{Numbers}
use Rattle.grid_pnm.specs.Scan.{is_white, next_number}

-- what comes next, unless a fault came before
abbrev pub and_then : {X Y : Type 0} → Result X PnmError → (X → Result Y PnmError) → Result Y PnmError
and_then (Err e) next = Err e
and_then (Ok x) next = next x

abbrev pub format : Bool → Bool → Format
format color plain = record { color = color; plain = plain }

-- the format that the magic number at the front stands for
abbrev pub format_of : List ℕ → Option Format
format_of bytes = let magic = take 2 bytes in
    if bytes_eq magic (codes "P2") then Some (format false true)
    else if bytes_eq magic (codes "P3") then Some (format true true)
    else if bytes_eq magic (codes "P5") then Some (format false false)
    else if bytes_eq magic (codes "P6") then Some (format true false) else None

abbrev pub starts_white : List ℕ → Bool
starts_white [] = false
starts_white (byte ∷ bytes) = is_white byte

-- the header of these numbers, if the greatest sample is from 1 to 255, and there is white space
-- after it; the raster begins after that
unfoldable pub header_by : ℕ → Format → Numbers → List ℕ → Result Header PnmError
header_by len format numbers rest = let at = len - length rest in
    if numbers.max == 0 || nat_lt 255 numbers.max then Err (BadMax numbers.max at)
    else if starts_white rest then Ok (record {
      color = format.color;
      plain = format.plain;
      rows = numbers.rows;
      cols = numbers.cols;
      max = numbers.max;
      raster = at + 1;
    })
    else Err (NoSpace at)

-- what follows the magic number: the number of columns, that of rows and the greatest sample
unfoldable pub header_after : ℕ → List ℕ → Option Format → Result Header PnmError
header_after len rest None = Err BadMagic
header_after len rest (Some format) = and_then (next_number len rest) (λ cols.
    and_then (next_number len cols.1) (λ rows.
    and_then (next_number len rows.1) (λ max.
    header_by len format (record { cols = cols.0; rows = rows.0; max = max.0 }) max.1)))

-- the header of a picture
abbrev pub header_of : List ℕ → Result Header PnmError
header_of bytes = header_after (length bytes) (drop 2 bytes) (format_of bytes)
