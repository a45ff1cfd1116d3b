use Rattle.std.proofs.Common.{rules}
use Rattle.grid_commands.proofs.refusals.pad_refusal.Goals as goal

pub returns-then-exceeds : goal.returns-then-exceeds
returns-then-exceeds = search rules
