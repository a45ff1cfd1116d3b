-- The lines so far, before those that are cut off the cells that are left.
use Rattle.std.proofs.Common.{◌≡◌, ◌/◌, ◌%◌, ◌++◌, length}
use Rattle.grid_base.specs.Gather.{items_of_each}
use Rattle.grid_play.specs.Commands.{cut}
use Rattle.grid_play.proofs.command.cut_lines.Given as goal

abbrev pub invariant-loop-line : goal.invariant-loop-line
invariant-loop-line g l = record {
  size : l.line-iterator.size ≡ l.len;
  even : length l.line-iterator.rest.now % l.len ≡ 0;
  lines : cut (length l.cells / l.len) l.len l.cells ≡ items_of_each l.lines.items ++ cut (length l.line-iterator.rest.now / l.len) l.len l.line-iterator.rest.now;
}
