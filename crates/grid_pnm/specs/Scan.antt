-- Numbers between white space and comments.
use Rattle.std.specs.Prelude.{◌==◌, ◌||◌, ◌-◌, ℕ, Bool, true, false, not, if◌then◌else◌, Option, Some, None, List, [], ◌∷◌, length, take, drop, Result, Ok, Err, option_map}
use Rattle.std.specs.Char.{is_ascii_digit}
use Rattle.std.specs.List.{prefix_len}
use Rattle.text_lines.specs.Numbers.{index_of}
use Rattle.grid_pnm.specs.declared.error.PnmError.{PnmError}
use Rattle.grid_pnm.specs.declared.error.PnmError.TheVariants.{BadNumber}

-- a space, a tab, a line feed or a carriage return
abbrev pub is_white : ℕ → Bool
is_white byte = byte == 32 || byte == 9 || byte == 10 || byte == 13

-- a comment goes from a number sign to a line feed or a carriage return
abbrev pub ends_comment : ℕ → Bool
ends_comment byte = byte == 10 || byte == 13

-- what is after the white space and the comments at the front; the front may be in a comment
abbrev pub after_gap : Bool → List ℕ → List ℕ
after_gap comment [] = []
after_gap true (byte ∷ bytes) = after_gap (not (ends_comment byte)) bytes
after_gap false (byte ∷ bytes) = if byte == 35 then after_gap true bytes
    else if is_white byte then after_gap false bytes else byte ∷ bytes

-- how many digits are at the front
abbrev pub digit_count : List ℕ → ℕ
digit_count bytes = prefix_len is_ascii_digit bytes

-- the number that the digits at the front write, up to `usize::MAX`, and what is after them
unfoldable pub number_at : List ℕ → Option (ℕ × List ℕ)
number_at bytes = option_map (λ n. (n, drop (digit_count bytes) bytes))
    (index_of (take (digit_count bytes) bytes))

-- a number, or the fault that there is none at this offset
abbrev pub number_or : ℕ → Option (ℕ × List ℕ) → Result (ℕ × List ℕ) PnmError
number_or at None = Err (BadNumber at)
number_or at (Some number) = Ok number

-- the number after white space and comments, and what is after it; the bytes are the end of a
-- picture of `len`
unfoldable pub next_number : ℕ → List ℕ → Result (ℕ × List ℕ) PnmError
next_number len bytes = let here = after_gap false bytes in
    number_or (len - length here) (number_at here)
