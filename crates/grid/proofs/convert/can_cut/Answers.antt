use Rattle.std.proofs.Common.{rules}
use Rattle.grid.proofs.convert.can_cut.Goals as goal

pub returns-then-len-eq0 : goal.returns-then-len-eq0
returns-then-len-eq0 c = search rules

pub returns-then-cols-ne0 : goal.returns-then-cols-ne0
returns-then-cols-ne0 c = search rules

pub returns-else-cols-ne0 : goal.returns-else-cols-ne0
returns-else-cols-ne0 c = search rules
