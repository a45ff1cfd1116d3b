use Rattle.std.proofs.Common.{◌≡◌, heap_items, heap_len}
use Rattle.grid_paths.proofs.Common.{IsHeap, by_sum, IsEnough, waiting}
use Rattle.grid_paths.proofs.costs.Frontier.next.Given as goal

abbrev pub invariant-loop-first : goal.invariant-loop-first
invariant-loop-first g l =
    record {
      left : l.self.left ≡ l.fn.self.left;
      sums : l.self.sums ≡ l.fn.self.sums;
      heap_order : IsHeap (by_sum g.N.Ord.cmp) (heap_items l.self.heap);
      enough : IsEnough g.N.Width.reads l.fn.self (waiting g.N.Width.reads l.self);
    }

abbrev pub decreases-loop-first : goal.decreases-loop-first
decreases-loop-first g l = heap_len l.self.heap
