use Rattle.std.proofs.Common.{arith}
use Rattle.std.proofs.lemmas.List.{nil_from_length}
use Rattle.grid_base.proofs.SteppedLemmas.{length-stepped}
use Rattle.grid_base.proofs.flat.stepped_iter.SteppedIter.none.Goals as goal

pub returns : goal.returns
returns g c = nil_from_length _ (length-stepped 0 0 0 c.args.cells.now (record { within = λ k lt. absurd (omega arith) }))
