use Rattle.std.proofs.Common.{◌≡◌, ◌<◌, ℕ, length, map}
use Rattle.grid_base.specs.Table.{row, col_count}
use Rattle.grid.proofs.convert.measure.Given as goal

abbrev pub invariant-loop-number : goal.invariant-loop-number
invariant-loop-number g l = (k : ℕ) → k < l.number → length (row (map g.L.AsSlice.items l.rows) k) ≡ col_count (map g.L.AsSlice.items l.rows)
