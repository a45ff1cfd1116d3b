use Rattle.std.proofs.Common.{◌≡◌, ℕ, ◌<◌, ◌≤◌, Some, true, slice_get}
use Rattle.grid.specs.Prelude.{row}
use Rattle.grid_changes.specs.Differences.{is_cell}
use Rattle.grid_changes.proofs.differences.next_in_cells.Given as goal

abbrev pub invariant-loop-col : goal.invariant-loop-col
invariant-loop-col g l = (j : ℕ) (x : _) → l.fn.from ≤ j → j < l.col → slice_get (row l.new.rows l.r) j ≡ Some x → is_cell g.T.PartialEq.eq (slice_get (row l.old.rows l.r) j) x ≡ true
