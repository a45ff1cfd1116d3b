use Rattle.std.proofs.Common.{◌≡◌, ◌-◌, ◌≤◌}
use Rattle.grid.specs.Prelude.{row_count, col_count}
use Rattle.grid_changes.specs.Differences.{cells_left}
use Rattle.grid_changes.proofs.differences.ChangeIterIterator.next.Given as goal

abbrev pub invariant-loop-self : goal.invariant-loop-self
invariant-loop-self g l = record {
  old : l.self-inside.old ≡ l.initial.self-inside.old;
  new : l.self-inside.new ≡ l.initial.self-inside.new;
  within : l.self-inside.col ≤ col_count l.self-inside.new.rows;
  rest : cells_left g.T.PartialEq.eq l.initial.self-inside.old.rows l.initial.self-inside.new.rows l.initial.self-inside.row l.initial.self-inside.col ≡ cells_left g.T.PartialEq.eq l.self-inside.old.rows l.self-inside.new.rows l.self-inside.row l.self-inside.col;
}

abbrev pub decreases-loop-self : goal.decreases-loop-self
decreases-loop-self g l = row_count l.self-inside.new.rows - l.self-inside.row
