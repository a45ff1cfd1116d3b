-- What a pass over lines of cells leaves. No public clause cites this module.
use Rattle.std.specs.Prelude.{◌≡◌, ℕ, ◌+◌, ◌-◌, ◌*◌, ◌<◌, List, length, slice_get}

-- p lines of q cells are in the reversed order
pub record LinesReversed {T : Type 0} (p q : ℕ) (old new : List T) : Type 0 where
  pub length_stays : length new ≡ length old
  pub moved : (i j : ℕ) → i < p → j < q → slice_get new (i * q + j)
      ≡ slice_get old ((p - 1 - i) * q + j)

-- each of p lines of q cells is reversed
pub record EachLineReversed {T : Type 0} (p q : ℕ) (old new : List T) : Type 0 where
  pub length_stays : length new ≡ length old
  pub moved : (i j : ℕ) → i < p → j < q → slice_get new (i * q + j)
      ≡ slice_get old (i * q + (q - 1 - j))
