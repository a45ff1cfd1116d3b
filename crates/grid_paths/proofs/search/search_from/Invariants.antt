use Rattle.std.proofs.Common.{◌≡◌, ℕ, ◌+◌, ◌*◌, ◌-◌, length, Contains}
use Rattle.grid_paths.proofs.Common.{IsOpen, IsMarked, HaveOneSize, unreached}
use Rattle.grid_paths.proofs.Lemmas.{IsTrimmed}
use Rattle.grid_base.specs.Table.{row_count, col_count}
use Rattle.grid_paths.specs.Search.{IsLeft}
use Rattle.grid_paths.proofs.search.search_from.Given as goal

abbrev pub invariant-loop-next : goal.invariant-loop-next
invariant-loop-next g l =
    record {
      size : HaveOneSize l.search.steps.numbers.rows l.fn.mask.rows;
      order : l.search.steps.numbers.order ≡ l.fn.mask.order;
      left : IsLeft l.fn.mask.rows l.search.steps.numbers.rows l.search.left.rows;
      search : IsTrimmed l.connectivity l.fn.mask.rows l.fn.starts l.search.steps.numbers.rows l.search.steps.queue.items l.next (row_count l.fn.mask.rows * col_count l.fn.mask.rows);
      start : (from : ℕ × ℕ) → Contains l.fn.starts from → IsOpen l.fn.mask.rows from → IsMarked l.search.steps.numbers.rows from 0;
    }

abbrev pub decreases-loop-next : goal.decreases-loop-next
decreases-loop-next g l = unreached l.search.steps.numbers.rows + length l.search.steps.queue.items - l.next
