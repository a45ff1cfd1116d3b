use Rattle.std.proofs.Common.{◌≡◌, map}
use Rattle.grid_base.specs.Table.{concat_rows}
use Rattle.grid.proofs.convert.join_rows.Given as goal

abbrev pub invariant-loop-row : goal.invariant-loop-row
invariant-loop-row g l = l.cells.items ≡ concat_rows (map (λ row. row.items) l.yielded)
