use Rattle.std.proofs.Common.{◌≡◌, ◌++◌, ◌≤◌, length, map, vec_len, vec_capacity}
use Rattle.std.specs.Vec.Iter.{into_iter_items}
use Rattle.grid.proofs.Common.{command_value, reply_value}
use Rattle.grid.proofs.Lemmas.{Running}
use Rattle.grid.proofs.command.runs.run.Given as goal

abbrev pub invariant-loop-command : goal.invariant-loop-command
invariant-loop-command g l = record {
  can : (goal.iterator-loop-command g).can_next l.command-iterator;
  finite : (goal.iterator-loop-command g).is_finite l.command-iterator;
  rest : l.yielded ++ into_iter_items l.command-iterator ≡ l.fn.commands.items;
  running : Running g.T.Clone.is_clone g.T.Default.is_default (map command_value l.yielded) l.fn.grid l.grid l.fn.tally l.tally (map reply_value l.replies.items);
  symmetry_grows : l.fn.tally.symmetry ≤ l.tally.symmetry;
  shift_grows : l.fn.tally.shift ≤ l.tally.shift;
  count : vec_len l.replies ≡ length l.yielded;
  room : length l.fn.commands.items ≤ vec_capacity l.replies;
}
