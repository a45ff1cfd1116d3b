use Rattle.std.proofs.Common.{◌≡◌, ◌++◌, List, map}
use Rattle.grid.specs.Prelude.{ClonesAreEqual, command_value}
use Rattle.std.specs.List.{AllZip}
use Rattle.grid_changes.specs.Differences.{writes, WritesClone}
use Rattle.grid_changes.proofs.differences.sets_of.Given as goal

abbrev pub invariant-loop-at : goal.invariant-loop-at
invariant-loop-at g l = record {
  can : (goal.iterator-loop-at g).can_next l.at-iterator;
  finite : (goal.iterator-loop-at g).is_finite l.at-iterator;
  copies : (later : List _) → AllZip (WritesClone g.T.Clone.is_clone) l.at-iterator later → AllZip (WritesClone g.T.Clone.is_clone) l.fn.cells (l.commands.items ++ later);
  cells : ClonesAreEqual g.T.Clone.is_clone → map command_value l.commands.items ++ writes l.at-iterator ≡ writes l.fn.cells;
}
