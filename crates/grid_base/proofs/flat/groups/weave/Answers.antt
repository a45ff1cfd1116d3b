use Rattle.std.proofs.Common.{inr, arith}
use Rattle.grid_base.proofs.Lemmas.{woven_in_place}
use Rattle.grid_base.proofs.flat.groups.weave.Goals as goal

pub returns-then-groups : goal.returns-then-groups
returns-then-groups g c = woven_in_place _ _ _ _ _ c.args.groups.within (inr (omega (arith), omega (arith)))
