-- The rows so far have their cells, those ahead have room, and the other cells are still to come.
use Rattle.std.specs.Vec.Iter.{into_iter_items}
use Rattle.grid_lines.proofs.CopyLemmas.{Unpacking}
use Rattle.grid_lines.proofs.rows.into_rows.Given as goal

abbrev pub invariant-loop-row : goal.invariant-loop-row
invariant-loop-row g l = Unpacking l.fn.grid.rows l.row l.rows.items (into_iter_items l.cells)
