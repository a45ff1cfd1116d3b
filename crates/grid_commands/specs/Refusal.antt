-- Which commands are refused: a function of the command and the size of the table.
use Rattle.std.specs.Prelude.{ℕ, ◌+◌, ◌*◌, Bool, not, ◌&&◌, Option, None, Some, List, [], ◌∷◌, length, slice_index_or, nat_eq, nat_lt, if◌then◌else◌}
use Rattle.std.specs.List.{list_any, list_all}
use Rattle.grid_commands.specs.declared.command.Refusal.{Refusal}
use Rattle.grid_commands.specs.declared.command.Refusal.TheVariants.{EmptyLine, Length, Index, TooLarge}
use Rattle.grid_commands.specs.Command.{Edit, push, insert_at, insert_all, expand, prepend, CommandValue, set_cell, swap_cells, lines, line_count, line_width}

-- whether this number of cells is more than a grid can have, `usize::MAX`
abbrev pub exceeds : ℕ → Bool
exceeds cells = nat_lt 18446744073709551615 cells

-- why k lines of this width can't be added as padding to `count`; none are added to no lines
abbrev pub pad_refusal : ℕ → ℕ → ℕ → Option Refusal
pad_refusal count width k =
    if nat_eq count 0 then None
    else (if nat_eq k 0 then None
    else (if exceeds ((count + k) * width) then Some TooLarge else None))

abbrev pub in_range : ℕ → ℕ → ℕ × ℕ → Bool
in_range m n p = nat_lt p.0 m && nat_lt p.1 n

-- by cases on a refusal
abbrev pub unless_refused : {X : Type 0} → Option Refusal → (Refusal → X) → X → X
unless_refused None f x = x
unless_refused (Some r) f x = f r

module _ {T : Type 0} where
  abbrev pub first_width : List (List T) → ℕ
  first_width ls = length (slice_index_or ls 0 [])

  -- the width that lines must have among `count` of this width: any where there are none, but one
  -- for all
  abbrev pub fitting_width : ℕ → ℕ → List (List T) → ℕ
  fitting_width count width ls = if nat_eq count 0 then first_width ls else width

  -- why lines can't be put before place i of `count` lines of this width
  abbrev pub lines_refusal : ℕ → ℕ → ℕ → List (List T) → Option Refusal
  lines_refusal count width i ls =
      if list_any (λ l. nat_eq (length l) 0) ls then Some EmptyLine
      else (if not (list_all (λ l. nat_eq (length l) (fitting_width count width ls)) ls)
      then Some Length
      else (if nat_lt count i then Some Index
      else (if exceeds ((count + length ls) * fitting_width count width ls) then Some TooLarge
      else None)))

  abbrev pub edit_refusal : ℕ → ℕ → Edit T → Option Refusal
  edit_refusal count width (push line) = lines_refusal count width count (line ∷ [])
  edit_refusal count width (insert_at i line) = lines_refusal count width i (line ∷ [])
  edit_refusal count width (insert_all i ls) = lines_refusal count width i ls
  edit_refusal count width (expand k) = pad_refusal count width k
  edit_refusal count width (prepend k) = pad_refusal count width k
  -- a read, a pop, a remove and a delete
  edit_refusal count width e = None

  -- why a command is refused at a table of m rows and n columns
  abbrev pub command_refusal : CommandValue T → ℕ → ℕ → Option Refusal
  command_refusal (set_cell r c v) m n = if in_range m n (r, c) then None else Some Index
  command_refusal (swap_cells p q) m n = if in_range m n p && in_range m n q then None
      else Some Index
  command_refusal (lines a e) m n = edit_refusal (line_count a m n) (line_width a m n) e
  -- a size, a get, a fill, a clear and an apply
  command_refusal x m n = None
