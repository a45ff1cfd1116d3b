use Rattle.std.proofs.Common.{Some, None, rules}
use Rattle.grid_paths.proofs.bfs.new_bfs.Goals as goal

pub returns : goal.returns
returns g c =
    let made = c.in_ok-numbers.ensures in
    record {
      order = made.same.order;
      size = record { rows = made.same.rows; cols = made.same.cols };
      none = made.cells.tabulated (λ i j. Some None) (λ i j p y inside at h. search rules);
      queue = c.in_ok-queue.ensures.items;
    }
