use Rattle.std.proofs.Common.{◌≡◌, map, take}
use Rattle.grid.specs.Prelude.{concat_rows}
use Rattle.test_support.proofs.plain.joined_rows.Given as goal

abbrev pub invariant-loop-row : goal.invariant-loop-row
invariant-loop-row g l = l.cells.items ≡ concat_rows (map (λ row. row.items) (take l.row-index l.table.items))
