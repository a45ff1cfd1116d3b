use Rattle.std.proofs.Common.{◌+◌, ◌-◌, length}
use Rattle.grid_paths.proofs.Common.{way_of, CanUndo, count_left}
use Rattle.grid_paths.proofs.Lemmas.{IsTaking}
use Rattle.grid_paths.proofs.taken.Taking.take_region.Given as goal

abbrev pub invariant-loop-next : goal.invariant-loop-next
invariant-loop-next g l =
    record {
      kept : CanUndo l.fn.self l.self;
      taking : IsTaking (way_of g.T.PartialEq.eq l.cells.on l.cells.stop) l.cells.mark l.connectivity l.starts l.fn.self.grid.now.rows l.self.grid.now.rows l.self.taken.items l.next;
    }

abbrev pub decreases-loop-next : goal.decreases-loop-next
decreases-loop-next g l =
    count_left (way_of g.T.PartialEq.eq l.cells.on l.cells.stop) l.self.grid.now.rows + length l.self.taken.items - l.next
