-- What commands cost in counted swaps, and the symmetries that they apply.
use Rattle.std.specs.Prelude.{ℕ, List, map, nat_eq, if◌then◌else◌, is_none}
use Rattle.grid_base.specs.Prelude.{flipped, row_count, col_count, price, symmetry_of}
use Rattle.grid_base.specs.declared.order.Order.{Order}
use Rattle.grid_base.specs.declared.words.Symmetry.{Symmetry}
use Rattle.grid_base.specs.declared.words.Symmetry.TheVariants.{Identity}
use Rattle.grid_commands.specs.declared.command.Axis.{Axis}
use Rattle.grid_commands.specs.declared.command.Axis.TheVariants.{Row, Col}
use Rattle.grid_commands.specs.Command.{Edit, delete_at, delete_range, expand, prepend, CommandValue, lines, apply, line_count, line_width}
use Rattle.grid_commands.specs.Refusal.{pad_refusal}
use Rattle.grid.specs.Shift.{rows_added_shift, delete_rows_shift}

-- the order in which the lines of an axis are those of a row-major storage
abbrev pub axis_order : Axis → Order → Order
axis_order Row o = o
axis_order Col o = flipped o

module _ {T : Type 0} where
  -- the symmetry that a command applies
  abbrev pub command_symmetry : CommandValue T → Symmetry
  command_symmetry (apply s) = s
  -- every command but an apply
  command_symmetry x = Identity

  -- the symmetry of a command list
  abbrev pub list_symmetry : List (CommandValue T) → Symmetry
  list_symmetry xs = symmetry_of (map command_symmetry xs)

  -- how many cells stay at an edit of `count` lines of this width and change their place in the
  -- storage
  abbrev pub edit_shift : Order → ℕ → ℕ → Edit T → ℕ
  edit_shift o count width (expand k) = if is_none (pad_refusal count width k)
      then (if nat_eq count 0 then 0 else rows_added_shift o count width count k) else 0
  edit_shift o count width (prepend k) = if is_none (pad_refusal count width k)
      then (if nat_eq count 0 then 0 else rows_added_shift o count width 0 k) else 0
  edit_shift o count width (delete_at i) = delete_rows_shift o count width i 1
  edit_shift o count width (delete_range i k) = delete_rows_shift o count width i k
  -- a read, a push, an insert, a pop and a remove
  edit_shift o count width e = 0

  -- of a command at a table of m rows and n columns
  abbrev pub step_shift : CommandValue T → Order → ℕ → ℕ → ℕ
  step_shift (lines a e) o m n = edit_shift (axis_order a o) (line_count a m n) (line_width a m n) e
  -- every command that is no edit of lines
  step_shift x o m n = 0

  -- what a command costs at a table, and how many cells it shifts there
  abbrev pub price_at : CommandValue T → List (List T) → ℕ
  price_at x t = price (command_symmetry x) (row_count t) (col_count t)

  abbrev pub shift_at : CommandValue T → Order → List (List T) → ℕ
  shift_at x o t = step_shift x o (row_count t) (col_count t)
