-- What commands say: an edit of lines is said of either axis, and a line of cells is the list of
-- them.
use Rattle.std.specs.Prelude.{ℕ, List}
use Rattle.grid_base.specs.declared.words.Symmetry.{Symmetry}
use Rattle.grid_base.specs.Gather.{items_of_each}
use Rattle.grid_commands.specs.declared.command.Axis.{Axis}
use Rattle.grid_commands.specs.declared.command.Axis.TheVariants.{Row, Col}
use Rattle.grid_commands.specs.declared.command.Command.{Command}
use Rattle.grid_commands.specs.declared.command.Command.TheVariants as the

-- what is asked of the lines of one axis, the rows or the columns of a table
pub data Edit (T : Type 0) : Type 0 where
  read : ℕ → Edit T
  push : List T → Edit T
  insert_at : ℕ → List T → Edit T
  insert_all : ℕ → List (List T) → Edit T
  pop : Edit T
  remove_at : ℕ → Edit T
  delete_at : ℕ → Edit T
  delete_range : ℕ → ℕ → Edit T
  expand : ℕ → Edit T
  prepend : ℕ → Edit T

-- what a contract sees of a command
pub data CommandValue (T : Type 0) : Type 0 where
  size : CommandValue T
  get : ℕ → ℕ → CommandValue T
  set_cell : ℕ → ℕ → T → CommandValue T
  swap_cells : ℕ × ℕ → ℕ × ℕ → CommandValue T
  lines : Axis → Edit T → CommandValue T
  fill : T → CommandValue T
  clear : CommandValue T
  apply : Symmetry → CommandValue T

module _ {T A : Type 0} where
  abbrev pub command_value : Command T A → CommandValue T
  command_value the.Size = size
  command_value (the.Get r c) = get r c
  command_value (the.Row i) = lines Row (read i)
  command_value (the.Col i) = lines Col (read i)
  command_value (the.Set r c v) = set_cell r c v
  command_value (the.Swap p q) = swap_cells p q
  command_value (the.PushRow line) = lines Row (push line.items)
  command_value (the.PushCol line) = lines Col (push line.items)
  command_value (the.InsertRow i line) = lines Row (insert_at i line.items)
  command_value (the.InsertCol i line) = lines Col (insert_at i line.items)
  command_value (the.InsertRows i ls) = lines Row (insert_all i (items_of_each ls.items))
  command_value (the.InsertCols i ls) = lines Col (insert_all i (items_of_each ls.items))
  command_value the.PopRow = lines Row pop
  command_value the.PopCol = lines Col pop
  command_value (the.RemoveRow i) = lines Row (remove_at i)
  command_value (the.RemoveCol i) = lines Col (remove_at i)
  command_value (the.DeleteRow i) = lines Row (delete_at i)
  command_value (the.DeleteCol i) = lines Col (delete_at i)
  command_value (the.DeleteRows s n) = lines Row (delete_range s n)
  command_value (the.DeleteCols s n) = lines Col (delete_range s n)
  command_value (the.ExpandRows k) = lines Row (expand k)
  command_value (the.ExpandCols k) = lines Col (expand k)
  command_value (the.PrependRows k) = lines Row (prepend k)
  command_value (the.PrependCols k) = lines Col (prepend k)
  command_value (the.Fill v) = fill v
  command_value the.Clear = clear
  command_value (the.Apply s) = apply s

module _ {T : Type 0} where
  -- the axis of a command; Row where it speaks of no lines
  abbrev pub axis_of : CommandValue T → Axis
  axis_of (lines a e) = a
  -- every command that is no edit of lines
  axis_of x = Row

-- the number of lines of an axis of a table of m rows and n columns, and the length of each
abbrev pub line_count : Axis → ℕ → ℕ → ℕ
line_count Row m n = m
line_count Col m n = n

abbrev pub line_width : Axis → ℕ → ℕ → ℕ
line_width Row m n = n
line_width Col m n = m
