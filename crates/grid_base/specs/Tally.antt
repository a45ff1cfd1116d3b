-- Counts of swaps.
use Rattle.std.specs.Prelude.{◌≡◌, ℕ, ◌+◌, ◌-◌, ◌^◌, ◌<◌, ◌≤◌, min}
use Rattle.grid_base.specs.declared.flat.counted.swaps.Swaps.{Swaps}

-- what a contract sees of a `Tally`
pub record Counts : Type 0 where
  pub symmetry : ℕ
  pub shift : ℕ

-- a count after k more swaps: it stops at the largest `u128`
abbrev pub saturating_count : ℕ → ℕ → ℕ
saturating_count n k = n + min k (340282366920938463463374607431768211455 - n)

-- among `len` cells, the n cells from start on and those `by` places after them can be swapped, and
-- a run can go on with n swaps
abbrev pub CanShift : ℕ → ℕ → ℕ → ℕ → Swaps → Type 0
CanShift start by n len swaps = (start + n + by ≤ len) × (start + n + by < 2 ^ 64) × (0 < by)
    × (swaps.for_shift + n < 2 ^ 64)

-- a run with n more swaps for a shift
abbrev pub HasShifted : ℕ → Swaps → Swaps → Type 0
HasShifted n old new = (new.for_symmetry ≡ old.for_symmetry) × (new.for_shift ≡ old.for_shift + n)
