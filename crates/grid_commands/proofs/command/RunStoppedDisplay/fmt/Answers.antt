use Rattle.std.proofs.Common.{rules}
use Rattle.grid_commands.proofs.command.RunStoppedDisplay.fmt.Goals as goal

pub returns-clause-writes : goal.returns-clause-writes
returns-clause-writes = search rules
