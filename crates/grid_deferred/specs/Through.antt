-- A command and its reply as read through a flip of the rows and through the transpose.
use Rattle.std.specs.Prelude.{ℕ, ◌+◌, ◌-◌, Bool, true, false, Option, List, [], ◌∷◌, map, reverse, nat_lt, if◌then◌else◌, option_map}
use Rattle.grid.specs.Prelude.{flags_of, transposes, image_rows, image_cols, symmetry_of, Edit, read, push, insert_at, insert_all, pop, remove_at, delete_at, delete_range, expand, prepend, CommandValue, get, set_cell, swap_cells, lines, apply, ReplyValue, size_is, line_is}
use Rattle.grid_base.specs.declared.words.Symmetry.{Symmetry}
use Rattle.grid_base.specs.declared.words.Symmetry.TheVariants.{FlipRows, Transpose}
use Rattle.grid_commands.specs.declared.command.Axis.{Axis}
use Rattle.grid_commands.specs.declared.command.Axis.TheVariants.{Row, Col}

abbrev pub other_axis : Axis → Axis
other_axis Row = Col
other_axis Col = Row

-- whether the image under a symmetry has each line of an axis reversed
abbrev pub reverses_cells : Symmetry → Axis → Bool
reverses_cells s Row = (flags_of s).2
reverses_cells s Col = (flags_of s).1

-- the axis of the base that an axis of the image was
abbrev pub base_axis : Symmetry → Axis → Axis
base_axis s a = if transposes s then other_axis a else a

abbrev pub reversed_if : {T : Type 0} → Bool → Option (List T) → Option (List T)
reversed_if true x = option_map reverse x
reversed_if false x = x

-- a reply turned by a symmetry, to a command on lines of this axis of the image
abbrev pub turned_reply : {T : Type 0} → Symmetry → Axis → ReplyValue T → ReplyValue T
turned_reply s a (size_is m n) = size_is (image_rows s m n) (image_cols s m n)
turned_reply s a (line_is x) = line_is (reversed_if (reverses_cells s a) x)
-- every reply but a size and a line
turned_reply s a r = r

-- line i of `count` in the reversed order, the gap before it, and the first of k lines; past the
-- end all stay
abbrev pub mirrored_line : ℕ → ℕ → ℕ
mirrored_line count i = if nat_lt i count then count - 1 - i else i

abbrev pub mirrored_insertion : ℕ → ℕ → ℕ
mirrored_insertion count i = if nat_lt count i then i else count - i

abbrev pub mirrored_start : ℕ → ℕ → ℕ → ℕ
mirrored_start count i k = if nat_lt count (i + k) then i else count - i - k

module _ {T : Type 0} where
  -- an edit of `count` lines, on the lines in the reversed order
  abbrev pub edit_of_flipped : ℕ → Edit T → Edit T
  edit_of_flipped count (read i) = read (mirrored_line count i)
  edit_of_flipped count (push line) = insert_at 0 line
  edit_of_flipped count (insert_at i line) = insert_at (mirrored_insertion count i) line
  edit_of_flipped count (insert_all i ls) = insert_all (mirrored_insertion count i) (reverse ls)
  edit_of_flipped count pop = remove_at 0
  edit_of_flipped count (remove_at i) = remove_at (mirrored_line count i)
  edit_of_flipped count (delete_at i) = delete_at (mirrored_line count i)
  edit_of_flipped count (delete_range i k) = delete_range (mirrored_start count i k) k
  edit_of_flipped count (expand k) = prepend k
  edit_of_flipped count (prepend k) = expand k

  -- an edit, on lines that are each reversed
  abbrev pub edit_of_reversed : Edit T → Edit T
  edit_of_reversed (push line) = push (reverse line)
  edit_of_reversed (insert_at i line) = insert_at i (reverse line)
  edit_of_reversed (insert_all i ls) = insert_all i (map reverse ls)
  -- every edit that brings no line
  edit_of_reversed e = e

  -- the command on a table that does what this one does on the transposed table
  abbrev pub transposed_command : CommandValue T → CommandValue T
  transposed_command (get r c) = get c r
  transposed_command (set_cell r c v) = set_cell c r v
  transposed_command (swap_cells p q) = swap_cells (p.1, p.0) (q.1, q.0)
  transposed_command (lines a e) = lines (other_axis a) e
  transposed_command (apply u) = apply (symmetry_of (Transpose ∷ u ∷ Transpose ∷ []))
  -- a size, a fill and a clear
  transposed_command x = x

  -- the command on a table of m rows that does what this one does on the rows in the reversed order
  abbrev pub flipped_command : ℕ → CommandValue T → CommandValue T
  flipped_command m (get r c) = get (mirrored_line m r) c
  flipped_command m (set_cell r c v) = set_cell (mirrored_line m r) c v
  flipped_command m (swap_cells p q) = swap_cells (mirrored_line m p.0, p.1)
      (mirrored_line m q.0, q.1)
  flipped_command m (lines Row e) = lines Row (edit_of_flipped m e)
  flipped_command m (lines Col e) = lines Col (edit_of_reversed e)
  flipped_command m (apply u) = apply (symmetry_of (FlipRows ∷ u ∷ FlipRows ∷ []))
  -- a size, a fill and a clear
  flipped_command m x = x
