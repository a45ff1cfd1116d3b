use Rattle.std.proofs.Common.{rules}
use Rattle.grid_base.proofs.tally.Tally.new.Goals as goal

pub returns-clause-symmetry : goal.returns-clause-symmetry
returns-clause-symmetry = search rules
