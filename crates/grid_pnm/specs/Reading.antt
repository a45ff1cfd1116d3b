-- Which board a picture is.
use Rattle.std.specs.Prelude.{◌≡◌, ◌≤◌, ◌⊎◌, ◌*◌, ℕ, if◌then◌else◌, List, length, Result, Ok, Err, MatchResult}
use Rattle.grid.specs.Prelude.{table_of, GridValue, equal_rows}
use Rattle.std.specs.Simd.{first_chunks}
use Rattle.grid_base.specs.declared.order.Order.TheVariants.{RowMajor}
use Rattle.grid_pnm.specs.declared.error.PnmError.{PnmError}
use Rattle.grid_pnm.specs.declared.error.PnmError.TheVariants.{BadMagic, Memory}
use Rattle.grid_pnm.specs.declared.head.Header.{Header}
use Rattle.grid_pnm.specs.Header.{and_then, header_of}
use Rattle.grid_pnm.specs.Samples.{sample_count, samples_of}

-- the rows of a picture's cells, which come row by row; no rows where there are no cells
abbrev pub rows_of : {T : Type 0} → Header → List T → List (List T)
rows_of header cells = equal_rows (table_of RowMajor header.rows header.cols cells)

-- the rows of a gray picture: each cell is a sample
abbrev pub pgm_of : List ℕ → Result (List (List ℕ)) PnmError
pgm_of bytes = and_then (header_of bytes) (λ header.
    if header.color then Err BadMagic
    else and_then (samples_of 1 bytes header) (λ samples. Ok (rows_of header samples)))

-- the rows of a colored picture: each cell is the next three samples
abbrev pub ppm_of : List ℕ → Result (List (List (List ℕ))) PnmError
ppm_of bytes = and_then (header_of bytes) (λ header.
    if header.color
    then and_then (samples_of 3 bytes header) (λ samples.
    Ok (rows_of header (first_chunks 3 (header.rows * header.cols) samples)))
    else Err BadMagic)

-- a picture of `channels` samples for each cell has at least as many bytes as samples
abbrev pub HasSamples : ℕ → List ℕ → Type 0
HasSamples channels bytes = (header : Header) × (header_of bytes ≡ Ok header)
    × (sample_count channels header ≤ length bytes)

-- the answer is the row-major grid that was read, or the fault; or allocation failed, which a
-- picture needs only if it has as many bytes as samples
abbrev pub IsOrMemory : {T : Type 0} → ℕ → List ℕ → Result (List (List T)) PnmError
    → Result (GridValue T) PnmError → Type 0
IsOrMemory channels bytes read answer = ((answer ≡ Err Memory) × HasSamples channels bytes)
    ⊎ MatchResult answer (λ g. (read ≡ Ok g.rows) × (g.order ≡ RowMajor)) (λ e. read ≡ Err e)
