use Rattle.std.proofs.Common.{◌+◌}
use Rattle.grid.proofs.Common.{IsWithin, CellsUpdated}
use Rattle.grid.proofs.grid.Grid.update_in_row.Given as goal

abbrev pub invariant-loop-col : goal.invariant-loop-col
invariant-loop-col g l = CellsUpdated (IsWithin l.row (l.row + 1) l.from l.col) (λ at p y. goal.F-post g l.f at p y) l.fn.self l.self
