use Rattle.std.proofs.Common.{map, take}
use Rattle.grid.proofs.Common.{AllZip, concat_rows}
use Rattle.grid.proofs.convert.join_clones.Given as goal

abbrev pub invariant-loop-row : goal.invariant-loop-row
invariant-loop-row g l = AllZip g.T.Clone.is_clone (concat_rows (map g.L.AsSlice.items (take l.row-index l.rows))) l.cells.items
