use Rattle.std.proofs.Common.{◌≡◌, ◌++◌, ◌≤◌, length, map, vec_len, vec_capacity}
use Rattle.grid_deferred.proofs.Common.{command_value, reply_value, base, lender, pending}
use Rattle.grid_deferred.proofs.Lemmas.{Going}
use Rattle.std.specs.Vec.Iter.{into_iter_items}
use Rattle.grid_deferred.proofs.run.run_deferred.Given as goal

abbrev pub invariant-loop-command : goal.invariant-loop-command
invariant-loop-command g l = record {
  can : (goal.iterator-loop-command g).can_next l.command-iterator;
  finite : (goal.iterator-loop-command g).is_finite l.command-iterator;
  rest : l.yielded ++ into_iter_items l.command-iterator ≡ l.fn.commands.items;
  name : lender l.deferred ≡ lender l.initial.deferred;
  symmetry : l.tally.symmetry ≡ l.fn.tally.symmetry;
  going : Going g.T.Clone.is_clone g.T.Default.is_default (map command_value l.yielded) l.fn.grid (base l.deferred) (pending l.deferred) l.fn.tally.shift l.tally.shift (map reply_value l.replies.items);
  shift_grows : l.fn.tally.shift ≤ l.tally.shift;
  count : vec_len l.replies ≡ length l.yielded;
  room : length l.fn.commands.items ≤ vec_capacity l.replies;
}
