use Rattle.std.proofs.Common.{◌+◌}
use Rattle.grid_base.proofs.Common.{positions_of, ReturnsAtCell, UpdatedFrom}
use Rattle.grid_base.proofs.flat.all_cells.update_line.Given as goal

abbrev pub invariant-loop-k : goal.invariant-loop-k
invariant-loop-k g l = UpdatedFrom (ReturnsAtCell (λ h at p y. goal.F-post g h at p y) l.f) (positions_of l.fn.layout) l.initial.cells l.start (l.start + l.k) l.cells
