-- What a script says: a table in an order, and commands; or what is wrong with it.
use Rattle.std.specs.Prelude.{◌≡◌, ◌⊎◌, ℕ, ◌+◌, ◌/◌, ℤ, if◌then◌else◌, Option, None, Some, Result, Ok, Err, List, [], ◌∷◌, ◌++◌, length, codes, bytes_eq}
use Rattle.grid.specs.Prelude.{table_of, GridValue, CommandValue}
use Rattle.std.specs.Str.{is_utf8}
use Rattle.grid_base.specs.declared.order.Order.{Order}
use Rattle.grid_base.specs.declared.order.Order.TheVariants.{RowMajor, ColumnMajor}
use Rattle.grid_play.specs.declared.fault.ScriptFault.{ScriptFault}
use Rattle.grid_play.specs.declared.fault.ScriptFault.TheVariants.{BadGrid, BadCommand, Memory}
use Rattle.text_lines.specs.Lines.{lines_of, words_of}
use Rattle.text_lines.specs.Numbers.{index_of}
use Rattle.grid_play.specs.Commands.{◌>>=◌, cells_of, can_be_cut, command_of}

-- the words of a line, which is UTF-8
abbrev pub text_words : List ℕ → Option (List (List ℕ))
text_words line = if is_utf8 line then Some (words_of line) else None

abbrev pub order_of : List ℕ → Option Order
order_of word =
    if bytes_eq word (codes "RowMajor") then Some RowMajor
    else (if bytes_eq word (codes "ColumnMajor") then Some ColumnMajor else None)

-- a table, and the order that it is stored in
pub record Layout : Type 0 where
  pub rows : List (List ℤ)
  pub order : Order

-- those of a grid
abbrev pub layout : GridValue ℤ → Layout
layout grid = record { rows = grid.rows; order = grid.order }

-- the table of this order and `cols` columns whose cells in storage order are these, if they can be
-- cut so
abbrev pub grid_from : Order → ℕ → List ℤ → Option Layout
grid_from order cols cells =
    if can_be_cut (length cells) cols then Some
    (record { rows = table_of order (length cells / cols) cols cells; order = order })
    else None

-- the grid of the first line: an order, the number of columns, and the cells
abbrev pub grid_of_words : List (List ℕ) → Option Layout
grid_of_words (order ∷ cols ∷ words) = do
  order ← order_of order
  cols ← index_of cols
  cells ← cells_of words
  grid_from order cols cells
grid_of_words _ = None

unfoldable pub grid_of : List ℕ → Option Layout
grid_of line = do
  words ← text_words line
  grid_of_words words

-- the command of another line, if it has words
abbrev pub commands_of_words : List (List ℕ) → Option (List (CommandValue ℤ))
commands_of_words [] = Some []
commands_of_words (name ∷ words) = do
  command ← command_of name words
  Some (command ∷ [])

unfoldable pub line_commands : List ℕ → Option (List (CommandValue ℤ))
line_commands line = do
  words ← text_words line
  commands_of_words words

-- a value that may be missing, or else a fault
abbrev pub or_fault : {X : Type 0} → ScriptFault → Option X → Result X ScriptFault
or_fault fault None = Err fault
or_fault fault (Some x) = Ok x

infixl 10 ◌>>◌
abbrev pub ◌>>◌ : {X Y : Type 0} → Result X ScriptFault → (X → Result Y ScriptFault)
    → Result Y ScriptFault
Ok x >> next = next x
Err fault >> next = Err fault

-- the commands of lines, of which the first has this number
abbrev pub commands_from : ℕ → List (List ℕ) → Result (List (CommandValue ℤ)) ScriptFault
commands_from number [] = Ok []
commands_from number (line ∷ lines) =
    or_fault (BadCommand number) (line_commands line) >> (λ commands.
    commands_from (number + 1) lines >> (λ rest. Ok (commands ++ rest)))

-- the table and the commands of a script
pub record ScriptValue : Type 0 where
  pub grid : Layout
  pub commands : List (CommandValue ℤ)

abbrev pub script_of_lines : List (List ℕ) → Result ScriptValue ScriptFault
script_of_lines [] = Err BadGrid
script_of_lines (first ∷ later) =
    or_fault BadGrid (grid_of first) >> (λ grid.
    commands_from 2 later >> (λ commands. Ok (record { grid = grid; commands = commands })))

unfoldable pub script_of : List ℕ → Result ScriptValue ScriptFault
script_of input = script_of_lines (lines_of input)

-- what is due comes, as it is seen, or else allocation failed
abbrev pub IsOrMemory : {X Y : Type 0} → (Y → X) → Result X ScriptFault → Result Y ScriptFault
    → Type 0
IsOrMemory seen due (Ok y) = due ≡ Ok (seen y)
IsOrMemory seen due (Err fault) = (fault ≡ Memory) ⊎ (due ≡ Err fault)
