-- The samples of a picture.
use Rattle.std.specs.Prelude.{◌+◌, ◌-◌, ◌*◌, ◌==◌, ℕ, zero, suc, false, nat_lt, if◌then◌else◌, Option, Some, None, List, [], ◌∷◌, ◌++◌, length, take, drop, position, slice_index, Result, Ok, Err}
use Rattle.grid_pnm.specs.declared.error.PnmError.{PnmError}
use Rattle.grid_pnm.specs.declared.error.PnmError.TheVariants.{Short, AboveMax}
use Rattle.grid_pnm.specs.declared.head.Header.{Header}
use Rattle.grid_pnm.specs.Scan.{after_gap, next_number}
use Rattle.grid_pnm.specs.Header.{and_then}

-- the samples before, in front of the later ones
abbrev pub prepend : List ℕ → Result (List ℕ) PnmError → Result (List ℕ) PnmError
prepend samples (Err e) = Err e
prepend samples (Ok later) = Ok (samples ++ later)

-- the sample that the number after white space and comments is, and what is after it, in a
-- picture of len bytes
abbrev pub next_sample : ℕ → ℕ → List ℕ → Result (ℕ × List ℕ) PnmError
next_sample len max bytes = and_then (next_number len bytes) (λ sample.
    if nat_lt max sample.0 then Err (AboveMax sample.0 (len - length (after_gap false bytes)) max)
    else Ok sample)

-- this number of samples in decimals
abbrev pub plain_samples : ℕ → ℕ → ℕ → List ℕ → Result (List ℕ) PnmError
plain_samples len max zero bytes = Ok []
plain_samples len max (suc count) bytes = and_then (next_sample len max bytes) (λ sample.
    prepend (sample.0 ∷ []) (plain_samples len max count sample.1))

-- the samples that these bytes are, which begin at this offset: each is at most the greatest, as
-- any byte is at most 255
abbrev pub raw_or : ℕ → ℕ → List ℕ → Option ℕ → Result (List ℕ) PnmError
raw_or at max bytes None = Ok bytes
raw_or at max bytes (Some above) = Err (AboveMax (slice_index bytes above) (at + above) max)

abbrev pub raw_samples : ℕ → ℕ → List ℕ → Result (List ℕ) PnmError
raw_samples at max bytes = if max == 255 then Ok bytes
    else raw_or at max bytes (position (λ sample. nat_lt max sample) bytes)

-- how many samples a picture of `channels` for each cell has
abbrev pub sample_count : ℕ → Header → ℕ
sample_count channels header = header.rows * header.cols * channels

-- the samples of a picture of this header: the bytes after it, or the numbers that these write;
-- there are at least as many bytes as samples
unfoldable pub samples_of : ℕ → List ℕ → Header → Result (List ℕ) PnmError
samples_of channels bytes header = let raster = drop header.raster bytes in
    let count = sample_count channels header in
    if nat_lt (length raster) count then Err (Short header.raster header.rows header.cols)
    else if header.plain then plain_samples (length bytes) header.max count raster
    else raw_samples header.raster header.max (take count raster)
