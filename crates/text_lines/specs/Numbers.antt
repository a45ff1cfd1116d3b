-- The numbers that words write.
use Rattle.std.specs.Prelude.{ℕ, ℤ, pos, neg_ℤ, ◌&&◌, not, nat_lt, if◌then◌else◌, Option, Some, None, List, drop, option_map}
use Rattle.std.specs.Str.{all_ascii_digits}
use Rattle.std.specs.Str.Parse.{starts_with_minus, digits_value}
use Rattle.text_lines.specs.Lines.{is_word}

-- the number of a word that is all digits, if it is at most so large
unfoldable pub number_up_to : ℕ → List ℕ → Option ℕ
number_up_to most word =
    if is_word word && all_ascii_digits word && not (nat_lt most (digits_value 10 word))
    then Some (digits_value 10 word) else None

-- an index or a count: at most `usize::MAX`
unfoldable pub index_of : List ℕ → Option ℕ
index_of word = number_up_to 18446744073709551615 word

-- a cell: an `i64`, after a minus where it is negative
unfoldable pub cell_of : List ℕ → Option ℤ
cell_of word =
    if starts_with_minus word then option_map (λ n. neg_ℤ (pos n))
    (number_up_to 9223372036854775808 (drop 1 word))
    else option_map (λ n. pos n) (number_up_to 9223372036854775807 word)
