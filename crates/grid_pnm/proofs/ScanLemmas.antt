-- The digits at the front of a list of bytes.
use Rattle.std.proofs.Common.{◌≡◌, ℕ, ◌<◌, ◌≤◌, true, Some, None, List, length, take, drop, get_or, refl, arith, ⊎_elim, IsAscii, get_or-take}
use Rattle.grid_base.proofs.Common.{is_ascii_digit, prefix_len, get_or-eq_default, cases_lt, nat_tests, length-prefix_len, prefix_len_passes}
use Rattle.text_lines.specs.Numbers.{index_of}
use Rattle.grid_pnm.specs.Scan.{digit_count, number_at}

pub front_count : (bytes : List ℕ) → length (take (prefix_len is_ascii_digit bytes) bytes) ≡ prefix_len is_ascii_digit bytes
front_count bytes = length-prefix_len is_ascii_digit bytes

low : (b : ℕ) → is_ascii_digit b ≡ true → b < 128
low b digit = grind (arith, nat_tests)

pub digits_are_ascii : (bytes : List ℕ) → IsAscii (take (digit_count bytes) bytes)
digits_are_ascii bytes i =
    ⊎_elim (λ (within : i < digit_count bytes). rw (get_or-take (digit_count bytes) bytes i 0 within) (low (get_or bytes i 0) (prefix_len_passes is_ascii_digit bytes i 0 within)))
    (λ (past : digit_count bytes ≤ i). let none = get_or-eq_default (take (digit_count bytes) bytes) 0 {n = i} (omega (arith, front_count bytes, past)) in omega (arith, none))
    (cases_lt i (digit_count bytes))

-- what is read of the digits is the number
module _ (bytes digits rest : List ℕ) (front : digits ≡ take (digit_count bytes) bytes) (back : rest ≡ drop (digit_count bytes) bytes) where
  pub number_is : (n : ℕ) → index_of digits ≡ Some n → number_at bytes ≡ Some (n, rest)
  unfolding number_at
  number_is n is = rw (← front, is, back) refl

  pub number_none : index_of digits ≡ None → number_at bytes ≡ None
  unfolding number_at
  number_none is = rw (← front, is) refl
