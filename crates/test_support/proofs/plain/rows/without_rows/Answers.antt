use Rattle.std.proofs.Common.{arith, append-nil}
use Rattle.std.proofs.lemmas.List.{take-map, drop-map}
use Rattle.test_support.proofs.plain.rows.without_rows.Goals as goal

pub returns : goal.returns
returns g c = grind (arith, take-map, drop-map, append-nil)
