use Rattle.std.proofs.Common.{◌≡◌, ◌++◌, map, reverse, take, drop}
use Rattle.grid_deferred.proofs.Common.{items_of_each}
use Rattle.grid_deferred.proofs.carrying.each_reversed.Given as goal

abbrev pub invariant-loop-line : goal.invariant-loop-line
invariant-loop-line g l = record {
  cells : items_of_each l.line-items ≡ map reverse (take l.line-index (items_of_each l.fn.lines.items)) ++ drop l.line-index (items_of_each l.fn.lines.items);
}
