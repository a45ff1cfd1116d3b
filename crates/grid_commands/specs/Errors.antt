-- What the errors of a grid's calls print.
use Rattle.std.specs.Prelude.{ℕ, List, ◌++◌, codes, decimal}
use Rattle.grid_commands.specs.declared.error.GridError.{GridError}
use Rattle.grid_commands.specs.declared.error.GridError.TheVariants.{TooLarge, Memory}
use Rattle.grid_commands.specs.declared.error.ShapeError.{ShapeError}
use Rattle.grid_commands.specs.declared.error.ShapeError.TheVariants.{TooLarge as TooManyCells, Memory as OutOfMemory}

-- why a grid could not be made or edited, in words
abbrev pub fault_text : GridError → List ℕ
fault_text TooLarge = codes "too many cells"
fault_text Memory = codes "out of memory"

-- that memory ran out after `done` commands
abbrev pub stopped_text : ℕ → List ℕ
stopped_text done = codes "out of memory after " ++ (decimal done ++ codes " commands")

-- the same fault of a call that makes a grid of cells or rows
abbrev pub as_shape_error : GridError → ShapeError
as_shape_error TooLarge = TooManyCells
as_shape_error Memory = OutOfMemory
