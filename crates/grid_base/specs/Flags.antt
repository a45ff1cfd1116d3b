-- A symmetry as an optional transpose, then an optional flip of the rows, then one of the columns.
use Rattle.std.specs.Prelude.{Bool, true, false}
use Rattle.grid_base.specs.declared.words.Symmetry.{Symmetry}
use Rattle.grid_base.specs.declared.words.Symmetry.TheVariants.{Identity, FlipCols, FlipRows, RotateHalf, Transpose, RotateLeft, RotateRight, AntiTranspose}

abbrev pub flags_of : Symmetry → Bool × Bool × Bool
flags_of Identity = (false, false, false)
flags_of FlipCols = (false, false, true)
flags_of FlipRows = (false, true, false)
flags_of RotateHalf = (false, true, true)
flags_of Transpose = (true, false, false)
flags_of RotateLeft = (true, true, false)
flags_of RotateRight = (true, false, true)
flags_of AntiTranspose = (true, true, true)

-- the symmetry with these flags
abbrev pub from_flags : Bool → Bool → Bool → Symmetry
from_flags false false false = Identity
from_flags false false true = FlipCols
from_flags false true false = FlipRows
from_flags false true true = RotateHalf
from_flags true false false = Transpose
from_flags true true false = RotateLeft
from_flags true false true = RotateRight
from_flags true true true = AntiTranspose
