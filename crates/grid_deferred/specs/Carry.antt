-- What it is for a command to do, on a table, what another does on the table's image.
use Rattle.std.specs.Prelude.{◌≡◌, ℕ, Bool, true, false, List}
use Rattle.grid.specs.Prelude.{flags_of, row_count, col_count, IsTable, act, Edit, delete_at, delete_range, expand, prepend, CommandValue, lines, apply, axis_of, line_count, step_rows, step_reply, takes_memory, step_shift}
use Rattle.grid_base.specs.declared.words.Symmetry.{Symmetry}
use Rattle.grid_base.specs.declared.order.Order.{Order}
use Rattle.grid_commands.specs.declared.command.Axis.{Axis}
use Rattle.grid_commands.specs.declared.command.Axis.TheVariants.{Row, Col}
use Rattle.grid_deferred.specs.Through.{turned_reply, base_axis, mirrored_line, mirrored_start}

-- whether the image under a symmetry has the lines of an axis in the reversed order
abbrev pub reverses_lines : Symmetry → Axis → Bool
reverses_lines s Row = (flags_of s).1
reverses_lines s Col = (flags_of s).2

module _ {T : Type 0} where
  -- an edit that moves counted cells, where its lines are in the reversed order; the others move
  -- none
  abbrev pub mirrored : ℕ → Edit T → Edit T
  mirrored count (expand k) = prepend k
  mirrored count (prepend k) = expand k
  mirrored count (delete_at i) = delete_at (mirrored_line count i)
  mirrored count (delete_range i k) = delete_range (mirrored_start count i k) k
  -- every edit but padding and a delete
  mirrored count e = e

  abbrev pub mirrored_if : Bool → ℕ → Edit T → Edit T
  mirrored_if true count e = mirrored count e
  mirrored_if false count e = e

  -- the shift of a command through a symmetry, at a base of m rows and n columns in this order
  abbrev pub shift_through : Symmetry → CommandValue T → Order → ℕ → ℕ → ℕ
  shift_through s (lines a e) o m n =
      step_shift (lines (base_axis s a) (mirrored_if (reverses_lines s a)
      (line_count (base_axis s a) m n) e)) o m n
  -- every command that is no edit of lines
  shift_through s x o m n = 0

  -- at a base of these rows
  abbrev pub shift_through_at : Symmetry → CommandValue T → Order → List (List T) → ℕ
  shift_through_at s x o t = shift_through s x o (row_count t) (col_count t)

  -- x on a table does what y does on the table's image, whatever the cells' default
  pub record CarriesAt (s : Symmetry) (x y : CommandValue T) (t : List (List T)) : Type 0 where
    pub rows : (d : T) → step_rows d y (act s t) ≡ act s (step_rows d x t)
    pub reply : step_reply y (act s t) ≡ turned_reply s (axis_of y) (step_reply x t)
    pub memory : takes_memory y (row_count (act s t)) (col_count (act s t))
        ≡ takes_memory x (row_count t) (col_count t)

  -- at each table of m rows and n columns, with the exact shift in either order
  pub record Carries (s : Symmetry) (m n : ℕ) (x y : CommandValue T) : Type 0 where
    pub at : (t : List (List T)) → IsTable t → row_count t ≡ m → col_count t ≡ n → CarriesAt s x y t
    pub shifts : (o : Order) → step_shift x o m n ≡ shift_through s y o m n

  abbrev pub is_apply : CommandValue T → Bool
  is_apply (apply s) = true
  -- every other command
  is_apply x = false
