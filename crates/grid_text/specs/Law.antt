-- Cells that are read as they were written.
use Rattle.std.specs.Prelude.{◌≡◌, ◌≢◌, ◌+◌, ◌<◌, ◌^◌, ℕ, ℤ, Option, Some, List}
use lib.Signed.{mag}
use Rattle.std.specs.Fmt.{signed_decimal}
use Rattle.std.specs.Char.{IsScalar}

-- the character w x of the cell x ends no line, and h reads the cell from it
pub record ReadsBack {T : Type 0} (w : T → ℕ) (h : ℕ → Option T) (x : T) : Type 0 where
  pub scalar : IsScalar (w x)
  pub no_feed : w x ≢ 10
  pub no_return : w x ≢ 13
  pub reads : h (w x) ≡ Some x

-- the number of the cell x has less than 65 digits, as every integer of the language does, and h
-- reads the cell from its decimals
pub record ReadsNumber {T : Type 0} (whole : T → ℤ) (h : List ℕ → Option T) (x : T) : Type 0 where
  pub small : mag (whole x) + 1 < 10 ^ 64
  pub reads : h (signed_decimal (whole x)) ≡ Some x
