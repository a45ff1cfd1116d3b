use Rattle.std.proofs.Common.{rules}
use Rattle.grid_commands.proofs.error.GridErrorDisplay.fmt.Goals as goal

pub returns-in-TooLarge-clause-writes : goal.returns-in-TooLarge-clause-writes
returns-in-TooLarge-clause-writes = search rules
