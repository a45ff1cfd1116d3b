use Rattle.std.proofs.Common.{◌≡◌, ◌+◌, ◌-◌, ◌*◌, ◌≤◌, ◌++◌, length, take, drop, reverse, map, vec_len, vec_capacity}
use Rattle.grid_base.proofs.Common.{concat_rows, transposed, items_of_each}
use Rattle.grid_base.proofs.flat.gather.append_across.Given as goal

abbrev pub invariant-loop : goal.invariant-loop
invariant-loop g l = record {
  lines : items_of_each l.lines ≡ map (λ line. reverse (drop l.counter line)) (items_of_each l.fn.lines);
  cells : l.cells.items ≡ l.fn.cells.items ++ concat_rows (take l.counter (transposed (items_of_each l.fn.lines)));
  room : vec_len l.cells + (l.width - l.counter) * length l.fn.lines ≤ vec_capacity l.cells;
}
