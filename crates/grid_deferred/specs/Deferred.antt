-- What a contract sees of a `Deferred`.
use Rattle.std.specs.Prelude.{List, [], ◌∷◌}
use Rattle.grid.specs.Prelude.{GridValue, act, symmetry_of, CommandValue, command_symmetry}
use Rattle.std.specs.Borrow.{GName}
use Rattle.grid_base.specs.declared.words.Symmetry.{Symmetry}
use Rattle.grid_base.specs.declared.words.Symmetry.TheVariants.{Transpose}
use Rattle.grid_commands.specs.declared.command.Axis.{Axis}
use Rattle.grid_commands.specs.declared.command.Axis.TheVariants.{Row, Col}
use Rattle.grid_deferred.specs.declared.deferred.Deferred.{Deferred}

module _ {T A : Type 0} where
  -- the base grid as it is now
  abbrev pub base : Deferred T A → GridValue T
  base d = d.base.now

  -- the ghost name of the reference to the base
  abbrev pub lender : Deferred T A → GName
  lender d = d.base.ghost_name

  -- the symmetry that isn't applied yet
  abbrev pub pending : Deferred T A → Symmetry
  pending d = d.pending

  -- the rows as seen through the pending symmetry
  abbrev pub shown : Deferred T A → List (List T)
  shown d = act d.pending d.base.now.rows

-- what is pending after a command, where s was
abbrev pub pending_after : {T : Type 0} → CommandValue T → Symmetry → Symmetry
pending_after x s = symmetry_of (s ∷ command_symmetry x ∷ [])

-- the table whose rows are the lines of an axis
abbrev pub along : {T : Type 0} → Axis → List (List T) → List (List T)
along Row t = t
along Col t = act Transpose t
