-- What a contract sees of a script that was read.
use Rattle.std.specs.Prelude.{map}
use Rattle.grid_commands.specs.Command.{command_value}
use Rattle.grid_play.specs.declared.script.Script.{Script}
use Rattle.grid_play.specs.Script.{layout, ScriptValue}

abbrev pub script_value : {A : Type 0} → Script A → ScriptValue
script_value script = record {
  grid = layout script.grid;
  commands = map command_value script.commands.items;
}
