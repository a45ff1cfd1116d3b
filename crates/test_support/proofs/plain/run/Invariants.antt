use Rattle.std.proofs.Common.{◌≡◌, map, take}
use Rattle.grid.specs.Prelude.{command_value, reply_value, run_rows, run_replies}
use Rattle.test_support.specs.Plain.{items_of_each}
use Rattle.test_support.proofs.plain.run.Given as goal

abbrev pub invariant-loop-command : goal.invariant-loop-command
invariant-loop-command g l = record {
  rows : items_of_each l.table ≡ run_rows l.default (take l.command-index (map command_value l.commands)) (items_of_each l.initial.table);
  replies : map reply_value l.replies.items ≡ run_replies l.default (take l.command-index (map command_value l.commands)) (items_of_each l.initial.table);
}
