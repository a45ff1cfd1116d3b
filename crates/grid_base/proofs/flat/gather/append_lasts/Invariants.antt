use Rattle.std.proofs.Common.{◌≡◌, ◌+◌, ◌-◌, ◌≤◌, length, vec_len, vec_capacity}
use Rattle.grid_base.proofs.Common.{items_of_each, last_of, before_last}
use Rattle.grid_base.proofs.Lemmas.{Passed}
use Rattle.grid_base.proofs.flat.gather.append_lasts.Given as goal

abbrev pub invariant-loop-line : goal.invariant-loop-line
invariant-loop-line g l = record {
  passed : Passed last_of before_last l.line-index (items_of_each l.initial.lines) (items_of_each l.lines) l.initial.cells.items l.cells.items;
  room : vec_len l.cells + (length l.initial.lines - l.line-index) ≤ vec_capacity l.cells;
  capacity : vec_capacity l.cells ≡ vec_capacity l.initial.cells;
}
