use Rattle.std.proofs.Common.{rules}
use Rattle.grid_base.proofs.Lemmas.{then_acts}
use Rattle.grid_base.proofs.laws.then_acts.Goals as goal

pub returns-clause-law : goal.returns-clause-law
returns-clause-law g c = λ v e t h. then_acts _ _ v e t h

pub returns-clause-same : goal.returns-clause-same
returns-clause-same = search rules
