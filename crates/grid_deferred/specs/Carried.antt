-- How `carry` rewrites a command, by the two symmetries of which the others are words; and where a
-- cell comes from. No public clause cites this module.
use Rattle.std.specs.Prelude.{ℕ}
use Rattle.grid_base.specs.declared.words.Symmetry.{Symmetry}
use Rattle.grid_base.specs.declared.words.Symmetry.TheVariants.{Identity, FlipCols, FlipRows, RotateHalf, Transpose, RotateLeft, RotateRight, AntiTranspose}
use Rattle.grid_commands.specs.Command.{CommandValue}
use Rattle.grid_deferred.specs.Through.{transposed_command, flipped_command}

-- the command on a base of m rows and n columns that does what this one does on its image
abbrev pub carried : {T : Type 0} → Symmetry → ℕ → ℕ → CommandValue T → CommandValue T
carried Identity m n y = y
carried Transpose m n y = transposed_command y
carried FlipRows m n y = flipped_command m y
carried RotateLeft m n y = transposed_command (flipped_command n y)
carried RotateRight m n y = flipped_command m (transposed_command y)
carried FlipCols m n y = transposed_command (flipped_command n (transposed_command y))
carried AntiTranspose m n y = flipped_command m (transposed_command (flipped_command n y))
carried RotateHalf m n y = transposed_command
    (flipped_command n (transposed_command (flipped_command m y)))
