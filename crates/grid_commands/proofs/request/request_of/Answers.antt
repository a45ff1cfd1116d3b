use Rattle.std.proofs.Common.{rules}
use Rattle.grid_commands.proofs.request.request_of.Goals as goal

pub returns-in-Row : goal.returns-in-Row
returns-in-Row = search rules
