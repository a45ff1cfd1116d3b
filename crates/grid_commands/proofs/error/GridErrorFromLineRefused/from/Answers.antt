use Rattle.std.proofs.Common.{rules}
use Rattle.grid_commands.proofs.error.GridErrorFromLineRefused.from.Goals as goal

pub returns : goal.returns
returns = search rules
