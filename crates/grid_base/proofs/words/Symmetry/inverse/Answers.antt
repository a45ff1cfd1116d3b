use Rattle.std.proofs.Common.{refl}
use Rattle.grid_base.proofs.Lemmas.{inverse_of, inverse_by_self}
use Rattle.grid_base.proofs.words.Symmetry.inverse.Goals as goal

pub returns-in-RotateLeft : goal.returns-in-RotateLeft
returns-in-RotateLeft c = rw c.in-RotateLeft.is (inverse_of _ _ refl)

pub returns-in-RotateRight : goal.returns-in-RotateRight
returns-in-RotateRight c = rw c.in-RotateRight.is (inverse_of _ _ refl)

pub returns-in_default : goal.returns-in_default
returns-in_default c = inverse_by_self _ c.in_default.not-RotateLeft c.in_default.not-RotateRight
