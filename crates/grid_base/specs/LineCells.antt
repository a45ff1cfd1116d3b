-- What an iterator along a line keeps. No public clause cites this module.
use Rattle.std.specs.Prelude.{List, reverse}
use Rattle.std.specs.Slice.Iter.{iter_rest}
use Rattle.grid_base.specs.declared.flat.line_iter.Cells.{Cells}
use Rattle.grid_base.specs.declared.flat.line_iter.Cells.TheVariants.{Together, Reversed, Apart}

-- the cells that are left
abbrev pub cells_left : {X : Type 0} → Cells X → List X
cells_left (Together cells) = iter_rest cells
cells_left (Reversed cells) = reverse (iter_rest cells)
cells_left (Apart cells) = cells
