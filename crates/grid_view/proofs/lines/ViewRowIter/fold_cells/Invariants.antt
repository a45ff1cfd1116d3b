use Rattle.std.proofs.Common.{◌≤◌, length}
use Rattle.grid_base.proofs.Common.{concat_rows, remaining}
use Rattle.grid_view.specs.Folded.{CallableOver, GoesOver}
use Rattle.grid_view.proofs.lines.ViewRowIter.fold_cells.Given as goal

abbrev pub invariant-loop-r : goal.invariant-loop-r
invariant-loop-r g l =
    (l.r-iterator.end ≤ length l.view.rows)
    × CallableOver g.F.FnMut l.at (concat_rows (remaining l.r-iterator.start l.r-iterator.end l.view.rows))
    × ((end : g.row.F.Denot × g.row.B.Denot) → GoesOver g.F.FnMut l.at (concat_rows (remaining l.r-iterator.start l.r-iterator.end l.view.rows)) end → GoesOver g.F.FnMut l.initial.at (concat_rows l.fn.self) end)
