-- A signed index brought into the range of a table's rows or columns.
use Rattle.std.specs.Prelude.{ℕ, ℤ, pos, negsuc, ◌-◌, min}

-- of the indices below n the one that is nearest to a signed index: 0 for a negative one, n - 1
-- for one that is too large; where n is 0 there is none, and it is 0
abbrev pub nearest_below : ℤ → ℕ → ℕ
nearest_below (pos k) n = min k (n - 1)
nearest_below (negsuc k) n = 0
