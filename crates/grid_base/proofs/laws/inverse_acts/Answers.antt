use Rattle.std.proofs.Common.{rules}
use Rattle.grid_base.proofs.Lemmas.{inverse_acts}
use Rattle.grid_base.proofs.laws.inverse_acts.Goals as goal

pub returns-clause-law : goal.returns-clause-law
returns-clause-law g c = λ v e t h. inverse_acts _ v e t h

pub returns-clause-same : goal.returns-clause-same
returns-clause-same = search rules
