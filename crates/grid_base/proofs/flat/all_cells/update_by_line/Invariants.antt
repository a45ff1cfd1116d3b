use Rattle.std.proofs.Common.{◌*◌}
use Rattle.grid_base.proofs.Common.{positions_of, lines_of, ReturnsAtCell, UpdatedFrom}
use Rattle.grid_base.proofs.flat.all_cells.update_by_line.Given as goal

abbrev pub invariant-loop-line : goal.invariant-loop-line
invariant-loop-line g l = UpdatedFrom (ReturnsAtCell (λ h at p y. goal.F-post g h at p y) l.f) (positions_of l.fn.layout) l.initial.cells 0 (l.line * (lines_of l.fn.layout).1) l.cells
