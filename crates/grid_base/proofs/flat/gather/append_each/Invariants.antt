use Rattle.std.proofs.Common.{◌+◌, ◌≤◌, [], length, drop, vec_len, vec_capacity}
use Rattle.grid_base.proofs.Common.{concat_rows, items_of_each}
use Rattle.grid_base.proofs.Lemmas.{Passed}
use Rattle.grid_base.proofs.flat.gather.append_each.Given as goal

abbrev pub invariant-loop-line : goal.invariant-loop-line
invariant-loop-line g l = record {
  passed : Passed (λ r. r) (λ r. []) l.line-index (items_of_each l.initial.lines) (items_of_each l.lines) l.initial.cells.items l.cells.items;
  room : vec_len l.cells + length (concat_rows (drop l.line-index (items_of_each l.initial.lines))) ≤ vec_capacity l.cells;
}
