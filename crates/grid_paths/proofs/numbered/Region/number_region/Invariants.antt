use Rattle.std.proofs.Common.{◌≡◌, ◌+◌, ◌-◌, length}
use Rattle.grid_paths.proofs.Common.{SameSizeAndOrder, alike, unreached}
use Rattle.grid_paths.proofs.Lemmas.{IsNumbering}
use Rattle.grid_paths.proofs.numbered.Region.number_region.Given as goal

abbrev pub invariant-loop-next : goal.invariant-loop-next
invariant-loop-next g l =
    record {
      same : SameSizeAndOrder l.fn.bfs.numbers l.bfs.numbers;
      numbering : IsNumbering l.self.connectivity (alike g.T.PartialEq.eq l.self.first.now l.self.grid.now.rows) l.fn.at l.self.number l.fn.bfs.numbers.rows l.bfs.numbers.rows l.bfs.queue.items l.next;
      fewer : unreached l.bfs.numbers.rows + length l.bfs.queue.items ≡ unreached l.fn.bfs.numbers.rows;
    }

abbrev pub decreases-loop-next : goal.decreases-loop-next
decreases-loop-next g l = unreached l.bfs.numbers.rows + length l.bfs.queue.items - l.next
