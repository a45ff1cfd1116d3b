-- The commands so far, before those of the lines that are left.
use Rattle.std.proofs.Common.{◌≡◌, ◌+◌, map}
use Rattle.grid_commands.specs.Command.{command_value}
use Rattle.text_lines.specs.Lines.{lines_of}
use Rattle.grid_play.specs.Script.{commands_from}
use Rattle.grid_play.proofs.CommandsLemmas.{after_these}
use Rattle.grid_play.proofs.script.parse_commands.Given as goal

abbrev pub invariant-loop-number : goal.invariant-loop-number
invariant-loop-number g l =
    commands_from (l.fn.lines.count + 1) (lines_of l.fn.lines.rest.now) ≡ after_these (map command_value l.commands.items) (commands_from (l.number-iterator.count + 1) (lines_of l.number-iterator.rest.now))
