-- The rows that were kept are in front, and those ahead are as they were.
use Rattle.std.proofs.Common.{◌≡◌}
use Rattle.grid_lines.proofs.RetainLemmas.{Retaining}
use Rattle.grid_lines.proofs.retain.retain_rows.Given as goal

abbrev pub invariant-loop-row : goal.invariant-loop-row
invariant-loop-row g l = record {
  callable : goal.F-IsAlwaysCallable g l.f;
  keeps : Retaining (goal.F-step g) l.fn.f l.fn.grid.rows l.kept l.row l.f l.grid.rows;
  order : l.grid.order ≡ l.fn.grid.order;
}
