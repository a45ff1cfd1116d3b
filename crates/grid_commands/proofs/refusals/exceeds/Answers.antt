use Rattle.std.proofs.Common.{◌+◌, arith}
use Rattle.grid_commands.proofs.FactorLemmas.{many_lines}
use Rattle.grid_commands.proofs.refusals.exceeds.Goals as goal

pub returns-in-None : goal.returns-in-None
returns-in-None c = many_lines (c.args.count + c.args.more) c.args.width (omega (arith, c.in-None.ensures))
