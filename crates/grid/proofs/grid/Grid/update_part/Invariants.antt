use Rattle.std.proofs.Common.{◌+◌}
use Rattle.grid.proofs.Common.{IsWithin, CellsUpdated}
use Rattle.grid.proofs.grid.Grid.update_part.Given as goal

abbrev pub invariant-loop-row : goal.invariant-loop-row
invariant-loop-row g l = CellsUpdated (IsWithin l.at.0 l.row l.at.1 (l.at.1 + l.size.1)) (λ at p y. goal.F-post g l.f at p y) l.fn.self l.self
